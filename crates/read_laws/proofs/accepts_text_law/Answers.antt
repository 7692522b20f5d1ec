pub returns : Rattle.read_laws.proofs.accepts_text_law.Goals.returns
returns c = Rattle.read_laws.proofs.Written.accepts_text_law
