use Rattle.qm_forest.proofs.TiedWrites.{seen_mate}

pub returns-clause-seen : Rattle.qm_forest.proofs.forest.Forest.set_mate.Goals.returns-clause-seen
returns-clause-seen c = rw (← c.self.view_is) (seen_mate c.self.invariant _ _ (rw (← c.self.view_is) at c.requires))
