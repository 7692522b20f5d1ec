use Rattle.std.proofs.Common.{rules, inl, inr, arith, length}
use Rattle.qm_forest.proofs.RingRounds.{above_more, climb_begins, climbs_on, held_more, next_rank, ring_climb}
use Rattle.qm_forest.proofs.RingRounds.{rises_here, round_rest, top_rank}
use Rattle.qm_forest.proofs.Enclosed.{climbs_here, climbs_place}
use Rattle.def_forest.specs.Tables.{up_at}
use Rattle.qm_forest.proofs.forest.Forest.match_up.Goals as goal

pub loop-p-init : goal.loop-p-init
loop-p-init c = record {
  above = climbs_place (up_at c.args.self.now.up) (length c.args.self.now.hand) c.args.c c.args.v c.requires.held.held;
  held = climbs_here (up_at c.args.self.now.up) (length c.args.self.now.hand) c.args.v;
  low = omega (arith, c.requires.held.vertex, c.requires.room.laminar.vertices);
  room = c.requires.room;
  done = λ rest due r. climb_begins c.requires.room.laminar c.requires.held rest r;
  entries = λ b w e. inl e;
}

pub match_ring-requires-clause-inner : goal.match_ring-requires-clause-inner
match_ring-requires-clause-inner c = search (rules, climbs_on)

pub loop-p-smaller : goal.loop-p-smaller
loop-p-smaller c = search (rules, rises_here, next_rank)

pub loop-p-preserved : goal.loop-p-preserved
loop-p-preserved c =
    let known = c.requires.room.laminar in
    let more = above_more known c.requires.held c.loop-p.invariant.above c.loop-p-test.true in
    let next = next_rank known c.requires.held c.loop-p.invariant.above c.loop-p-test.true in
    record {
      above = rw c.up_at-p.ensures.value more;
      held = search (rules, held_more);
      low = c.up_at-p.ensures.low c.loop-p.invariant.low;
      room = c.match_ring.ensures.room;
      done = λ rest due r. rw c.up_at-p.ensures.value (c.match_ring.ensures.done _ due
          (ring_climb c.loop-p.invariant.room (climbs_on known c.requires.held c.loop-p.invariant.above
          c.loop-p-test.true) rest c.args.v more.0 c.loop-p.invariant.held more.1 (top_rank known c.requires.held)
          (omega (arith, next, top_rank known c.requires.held)) (c.loop-p.invariant.done rest due r)));
      entries = λ b w e. elim (c.match_ring.ensures.entries b w e)
          [ inl was ↦ c.loop-p.invariant.entries b w was | inr low ↦ inr (omega (arith, low, next)) ];
    }

pub returns-clause-done : goal.returns-clause-done
returns-clause-done c rest due r = round_rest rest (λ b l. grind (arith, c.loop-p-test.false))
    (c.loop-p.invariant.done rest due r)
