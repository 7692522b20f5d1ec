pub returns : Rattle.qm_grid.proofs.cutting.Cutting.is_full.Goals.returns
returns c = rw (← c.self.view_is) c.self.invariant
