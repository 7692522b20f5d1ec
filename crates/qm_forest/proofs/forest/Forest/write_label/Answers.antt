use Rattle.std.proofs.Common.{rules, ◌≡◌, ◌≢◌, ◌<◌, ℕ, length, get_or, pos, ◌+ℤ◌, arith}
use Rattle.std.proofs.lemmas.Int.{ints}
use mir.{Syntax.w128, Val.to_z, Val.of_z}
use Rattle.def_forest.specs.{Steps.weight_change, Tables.forest_of, Tables.out_of, Tables.label_at}
use Rattle.def_forest.specs.{declared.kinds.Label.Label, declared.kinds.Label.TheVariants.Outside}
use Rattle.qm_forest.{specs.Ties.IsOnTrail, specs.declared.forest.Forest.TheInside.Inside, proofs.Shrinkings.seen_in}
use Rattle.qm_forest.proofs.TiedWrites.{delta_small, added_small, kept_in_bits, exchanged_is, tied_label, seen_label}
use Rattle.qm_forest.proofs.forest.Forest.write_label.Goals.{After-exchange-off, After-shift_at-after}
use Rattle.qm_forest.proofs.forest.Forest.write_label.Goals as goal

-- A vertex, its outermost blossom, its handle, the label of that blossom, and the new one.
record Places (s : Inside) (v b handle : ℕ) (label new : Label) : Type 0 where
  low : v < length s.handles.hand.items
  b_is : b ≡ out_of s.handles.hand.items s.handles.top.items v
  h_is : handle ≡ get_or s.handles.hand.items v 0
  label_is : label ≡ label_at s.tree.label.items b
  here : new ≢ Outside → IsOnTrail s.trail.vertices.items v
  delta : to_z w128 (of_z w128 s.weights.delta) ≡ s.weights.delta

places : (c : After-shift_at-after) → Places c.self.inside c.args.v c.top_of-b.result c.hand_of-handle.result
    c.label_of.result c.args.label
places c = record {
  low = rw (← c.self.view_is) at c.requires.low;
  b_is = cc;
  h_is = cc;
  label_is = cc;
  here = rw (← c.self.view_is) at c.requires.here;
  delta = kept_in_bits _ (omega (arith, delta_small c.self.invariant));
}

-- With the new label, what is written comes to what was there with the old one.
written : (c : After-exchange-off) → Places c.self.inside c.args.v c.top_of-b.result c.hand_of-handle.result
    c.label_of.result c.args.label → (to_z w128 (of_z w128 c.exchange-base.result) +ℤ weight_change c.args.label
    c.self.inside.weights.delta ≡ (forest_of (seen_in c.self.inside)).weight c.top_of-b.result) × (to_z w128
    (of_z w128 c.exchange-off.result) +ℤ weight_change c.args.label c.self.inside.weights.delta ≡ get_or
    c.self.inside.handles.off.items c.hand_of-handle.result (pos 0) +ℤ weight_change (label_at
    c.self.inside.tree.label.items c.top_of-b.result) c.self.inside.weights.delta)
written c at =
    let before = c.shift_at-before.ensures in
    let after = c.shift_at-after.ensures in (
      exchanged_is _ _ _ c.deref-5.ensures.value before.value at.label_is after.value at.delta
          (omega (arith, ints, c.exchange-base.ensures)),
      exchanged_is _ _ _ c.deref-6.ensures.value before.value at.label_is after.value at.delta
          (omega (arith, ints, c.exchange-off.ensures)),
    )

pub shift_at-before-requires : goal.shift_at-before-requires
shift_at-before-requires c = omega (arith, ints, delta_small c.self.invariant)

pub shift_at-after-requires : goal.shift_at-after-requires
shift_at-after-requires c = omega (arith, ints, delta_small c.self.invariant)

pub exchange-off-requires-clause-small : goal.exchange-off-requires-clause-small
exchange-off-requires-clause-small c =
    let s = c.self.inside in
    let at = places (goal.at.exchange-off-requires-clause-small c).After-shift_at-after in
    let read : get_or c.deref-6.result.now c.hand_of-handle.result (pos 0) ≡ get_or s.handles.off.items
    (get_or s.handles.hand.items c.args.v 0) (pos 0) = rw (c.deref-6.ensures.value, at.h_is) in
    let before : c.shift_at-before.result ≡ weight_change (label_at s.tree.label.items
    (out_of s.handles.hand.items s.handles.top.items c.args.v)) s.weights.delta = search rules in
    omega (arith, ints, read, before, c.shift_at-before.ensures.small, added_small c.self.invariant c.args.v at.low)

pub index_mut-requires : goal.index_mut-requires
index_mut-requires c =
    let at = places (goal.at.index_mut-requires c).After-shift_at-after in
    omega (arith, at.b_is, c.self.invariant.sizes.base, c.self.inside.weights.base.ok.0)

pub index_mut-requires-2 : goal.index_mut-requires-2
index_mut-requires-2 c =
    let at = places (goal.at.index_mut-requires-2 c).After-shift_at-after in
    let tied = c.self.invariant in
    omega (arith, at.h_is, tied.nest.hands c.args.v at.low, tied.sizes.off, c.self.inside.handles.off.ok.0)

pub index_mut-requires-3 : goal.index_mut-requires-3
index_mut-requires-3 c =
    let at = places (goal.at.index_mut-requires-3 c).After-shift_at-after in
    omega (arith, at.b_is, c.self.invariant.sizes.label, c.self.inside.tree.label.ok.0)

pub invariant_of-self : goal.invariant_of-self
invariant_of-self c =
    let steps = goal.at.invariant_of-self c in
    let at = places steps.After-shift_at-after in
    let w = written steps.After-exchange-off at in
    tied_label c.self.invariant at.low at.b_is at.h_is c.args.label _ _ at.here w.0 w.1

pub returns-clause-seen : goal.returns-clause-seen
returns-clause-seen c =
    let steps = goal.at.returns-clause-seen c in
    let at = places steps.After-shift_at-after in
    let w = written steps.After-exchange-off at in
    rw (← c.self.view_is) (seen_label c.self.invariant at.low at.b_is at.h_is c.args.label _ _ at.here w.0 w.1)
