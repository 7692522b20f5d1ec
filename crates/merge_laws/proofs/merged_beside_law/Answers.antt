pub returns : Rattle.merge_laws.proofs.merged_beside_law.Goals.returns
returns c = Rattle.merge_laws.proofs.Beside.merged_beside_law
