use Rattle.std.proofs.Common.{rules, ◌<◌, ◌≡◌, length, arith, ap, get_or, pos, ◌+ℤ◌}
use Rattle.qm_forest.proofs.TiedWrites.{delta_small, added_small, added_bound, potential_small}
use Rattle.qm_forest.proofs.{TiedWrites.kept_in_bits, Shrinkings.seen_in, forest.Forest.potential.Goals.After-deref-6}
use Rattle.{std.proofs.lemmas.Int.ints, def_forest.specs.Tables.ForestTables, def_forest.specs.Tables.forest_of}
use Rattle.qm_forest.specs.Ties.{potential}
use mir.{Syntax.w128, Val.to_z, Val.of_z}
use Rattle.qm_forest.proofs.forest.Forest.potential.Goals as goal

-- What the handle of the vertex adds, and its number: the potential.
told : (c : After-deref-6) → get_or c.deref-6.result.now c.args.v (pos 0) +ℤ to_z w128
    (of_z w128 c.added_at-more.result) ≡ potential (forest_of (seen_in c.self.inside)) c.args.v
told c = search rules

pub added_at-more-requires : goal.added_at-more-requires
added_at-more-requires c =
    let low : c.args.v < length c.self.inside.handles.hand.items = rw (← c.self.view_is) at c.requires in
    let more = added_bound c.self.invariant _ low c.hand_of-handle.result c.label_of-label.result
    c.deref-5.ensures.value (cc) (cc) (kept_in_bits _ (omega (arith, delta_small c.self.invariant))) in
    omega (arith, ints, more, added_small c.self.invariant _ low, delta_small c.self.invariant)

pub sum_at-requires : goal.sum_at-requires
sum_at-requires c =
    let is = told (goal.at.sum_at-requires c).After-deref-6 in
    omega (arith, ints, potential_small c.self.invariant c.args.v)

pub returns : goal.returns
returns c =
    let is = told (goal.at.returns c).After-deref-6 in
    let seen = ap (λ (t : ForestTables). potential (forest_of t) c.args.v) c.self.view_is in
    omega (arith, ints, c.sum_at.ensures, is, potential_small c.self.invariant c.args.v, seen)
