pub returns : Rattle.read_laws.proofs.spot_text_law.Goals.returns
returns c = Rattle.read_laws.proofs.Written.spot_text_law
