pub returns : Rattle.read_laws.proofs.one_traced_law.Goals.returns
returns c = Rattle.read_laws.proofs.LayoutsRead.one_traced_law
