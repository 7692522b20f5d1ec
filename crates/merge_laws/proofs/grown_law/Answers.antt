pub returns : Rattle.merge_laws.proofs.grown_law.Goals.returns
returns c = Rattle.merge_laws.proofs.Decided.grown_law
