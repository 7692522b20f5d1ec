pub returns : Rattle.read_laws.proofs.one_chosen_law.Goals.returns
returns c = Rattle.read_laws.proofs.LayoutsRead.one_chosen_law
