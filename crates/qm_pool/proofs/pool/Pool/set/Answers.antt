use Rattle.qm_pool.proofs.Places.{still_free}

pub invariant_of-self : Rattle.qm_pool.proofs.pool.Pool.set.Goals.invariant_of-self
invariant_of-self c = still_free c.self.inside.nodes.items _ _ c.args.id.0 c.requires.0 c.args.node c.self.invariant
    (rw (← c.self.view_is) at c.requires.1)
