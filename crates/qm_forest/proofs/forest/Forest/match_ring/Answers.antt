use Rattle.std.proofs.Common.{rules, ◌≡◌, suc, ◌+◌, ◌*◌, ◌/◌, ◌<◌, get_or, refl, ◌∙◌, ap, inl, inr, arith}
use Rattle.qm_forest.proofs.RingRounds.{ring_begun, ring_ended, ring_turn, turn_entries, turn_pairing}
use Rattle.qm_forest.proofs.forest.Forest.match_ring.Goals.{After-joint-d, After-parts-end}
use Rattle.{def_forest.specs.Tables.up_at, qm_forest.specs.Rounds.IsPairing}
use Rattle.qm_forest.proofs.forest.Forest.match_ring.Goals as goal

parts_is : (c : After-parts-end) → c.parts-end.result
    ≡ get_or c.args.self.now.parts (up_at c.args.self.now.up c.args.p) 0
parts_is c = c.parts-end.ensures ∙ ap (λ z. get_or c.args.self.now.parts z 0) c.up_at.ensures.value

pairing : (c : After-joint-d) → IsPairing c.args.self.now c.loop.x c.next-y.result c.joint-d.result
pairing c = search (rules, turn_pairing)

pub loop-init : goal.loop-init
loop-init c = record {
  here = c.next-x.ensures;
  room = c.requires.room;
  done = λ rest due r. ring_begun c.requires.room c.requires.inner rest 0 c.next-x.ensures refl r;
  entries = λ b v e. inl e;
}

pub pair-requires-clause-pairing : goal.pair-requires-clause-pairing
pair-requires-clause-pairing c = pairing (goal.at.pair-requires-clause-pairing c).After-joint-d

pub loop-preserved : goal.loop-preserved
loop-preserved c =
    let it = pairing (goal.at.loop-preserved c).After-joint-d in
    let two : suc (suc (2 * c.loop.counter)) ≡ 2 * (c.loop.counter + 1) = omega arith in
    let low : c.loop.counter < get_or c.args.self.now.parts (up_at c.args.self.now.up c.args.p) 0 / 2 =
    omega (arith, c.loop-test.true, parts_is (goal.at.loop-preserved c).After-parts-end) in
    record {
      here = search rules;
      room = c.pair.ensures.room;
      done = λ rest due r. rw c.next-x-in-loop.ensures (ring_turn c.loop.invariant.room c.requires.inner _ _ _
          c.loop.invariant.here low c.next-y.ensures c.joint-d.ensures refl c.pair.ensures.marks
          c.pair.ensures.left_out (c.loop.invariant.done rest due r));
      entries = λ b v e. elim (turn_entries c.loop.invariant.room c.requires.inner _ _ b v c.loop.invariant.here
          c.next-y.ensures c.pair.ensures.left_out it e) [ inl x ↦ c.loop.invariant.entries b v x | inr y ↦ inr y ];
    }

pub returns-clause-done : goal.returns-clause-done
returns-clause-done c rest due r =
    let parts = parts_is (goal.at.returns-clause-done c).After-parts-end in
    ring_ended c.loop.invariant.room c.requires.inner rest c.loop.counter c.loop.x
    (omega (arith, c.loop-test.false, c.loop.auto.counter-end, parts)) (c.loop.invariant.done rest due r)
