pub returns : Rattle.mesh_laws.proofs.manifold_law.Goals.returns
returns c = Rattle.mesh_laws.proofs.Chains.manifold_law
