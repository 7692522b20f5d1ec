pub returns : Rattle.read_laws.proofs.accepts_law.Goals.returns
returns c = Rattle.read_laws.proofs.Accepted.accepts_law
