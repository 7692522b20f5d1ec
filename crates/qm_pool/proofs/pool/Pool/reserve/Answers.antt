use Rattle.{std.proofs.Common.rules, qm_pool.proofs.Places.fresh_free}

pub invariant_of-self : Rattle.qm_pool.proofs.pool.Pool.reserve.Goals.invariant_of-self
invariant_of-self c = search (rules, fresh_free)
