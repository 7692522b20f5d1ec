pub returns : Rattle.merge_laws.proofs.held_law.Goals.returns
returns c = Rattle.merge_laws.proofs.Beside.held_law
