pub returns : Rattle.merge_laws.proofs.spared_law.Goals.returns
returns c = Rattle.merge_laws.proofs.Spared.spared_law
