pub returns : Rattle.read_laws.proofs.soup_in_law.Goals.returns
returns c = Rattle.read_laws.proofs.Soups.soup_in_law
