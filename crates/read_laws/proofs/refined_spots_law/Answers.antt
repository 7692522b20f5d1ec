pub returns : Rattle.read_laws.proofs.refined_spots_law.Goals.returns
returns c = Rattle.read_laws.proofs.Written.refined_spots_law
