pub returns : Rattle.read_laws.proofs.finished_spots_law.Goals.returns
returns c = Rattle.read_laws.proofs.Written.finished_spots_law
