pub returns : Rattle.merge_laws.proofs.join_law.Goals.returns
returns c = Rattle.merge_laws.proofs.Joins.join_law
