pub returns : Rattle.read_laws.proofs.finished_chains_law.Goals.returns
returns c = Rattle.read_laws.proofs.NewChains.finished_chains_law
