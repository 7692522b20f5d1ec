use Rattle.qm_forest.proofs.Increases.{seen_lay}

pub returns-clause-seen : Rattle.qm_forest.proofs.forest.Forest.lay.Goals.returns-clause-seen
returns-clause-seen c = rw (← c.self.view_is) (seen_lay c.self.invariant _ _ _ (rw (← c.self.view_is) at c.requires))
