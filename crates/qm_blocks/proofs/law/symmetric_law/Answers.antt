pub returns : Rattle.qm_blocks.proofs.law.symmetric_law.Goals.returns
returns c = Rattle.qm_blocks.proofs.Mutual.symmetric
