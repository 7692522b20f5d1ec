use Rattle.std.proofs.Common.{rules, ◌≡◌, ◌-◌, ◌<◌, ◌∙◌, get_or, arith}
use Rattle.std.proofs.lemmas.Grind.{get_or_default_zero}
use Rattle.qm_pool.proofs.Places.{taken_free, taken_empty}
use Rattle.qm_pool.proofs.pool.Pool.take.Goals as goal

pub invariant_of-self : goal.invariant_of-self
invariant_of-self c =
    let some : 0 < c.self.inside.left = omega (arith, c.if-self-eq0.false) in
    let id : c.index-id.result.now ≡ get_or c.self.inside.free.items (c.self.inside.left - 1) 0 =
    c.index-id.ensures ∙ get_or_default_zero c.self.inside.free.items (c.self.inside.left - 1) c.index-id.result.now
    (omega (arith, c.self.invariant.room, c.self.invariant.all)) in
    taken_free _ _ _ _ _ c.self.invariant some id

pub returns-clause-taken : goal.returns-clause-taken
returns-clause-taken c = search (rules, get_or_default_zero, taken_empty)
