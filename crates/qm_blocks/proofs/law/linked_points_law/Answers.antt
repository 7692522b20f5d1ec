pub returns : Rattle.qm_blocks.proofs.law.linked_points_law.Goals.returns
returns c = Rattle.qm_blocks.proofs.Mutual.linked_points
