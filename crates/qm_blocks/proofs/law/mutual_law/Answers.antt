pub returns : Rattle.qm_blocks.proofs.law.mutual_law.Goals.returns
returns c = Rattle.qm_blocks.proofs.Mutual.lead_back
