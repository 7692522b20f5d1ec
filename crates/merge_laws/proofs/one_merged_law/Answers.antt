pub returns : Rattle.merge_laws.proofs.one_merged_law.Goals.returns
returns c = Rattle.merge_laws.proofs.Beside.one_merged_law
