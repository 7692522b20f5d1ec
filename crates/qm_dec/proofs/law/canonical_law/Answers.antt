pub returns : Rattle.qm_dec.proofs.law.canonical_law.Goals.returns
returns c = Rattle.qm_dec.proofs.ReadBack.canonical_law
