pub returns-clause-laid : Rattle.qm_stages.proofs.cut_mesh.CutMesh.layout.Goals.returns-clause-laid
returns-clause-laid c = rw (← c.self.view_is) c.self.invariant
