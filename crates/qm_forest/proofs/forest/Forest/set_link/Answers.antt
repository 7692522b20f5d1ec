use Rattle.qm_forest.proofs.TiedWrites.{seen_link}

pub returns-clause-seen : Rattle.qm_forest.proofs.forest.Forest.set_link.Goals.returns-clause-seen
returns-clause-seen c = rw (← c.self.view_is) (seen_link c.self.invariant _ _ (rw (← c.self.view_is) at c.requires))
