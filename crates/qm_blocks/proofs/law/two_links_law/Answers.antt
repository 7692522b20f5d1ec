pub returns : Rattle.qm_blocks.proofs.law.two_links_law.Goals.returns
returns c = Rattle.qm_blocks.proofs.Mutual.two_links
