pub returns : Rattle.merge_laws.proofs.merged_law.Goals.returns
returns c = Rattle.merge_laws.proofs.Exists.merged_law
