pub returns : Rattle.read_laws.proofs.chain_said_law.Goals.returns
returns c = Rattle.read_laws.proofs.SaidChains.chain_said_law
