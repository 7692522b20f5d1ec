pub returns : Rattle.read_laws.proofs.mesh_text_law.Goals.returns
returns c = Rattle.read_laws.proofs.Soups.mesh_text_law
