use Rattle.std.proofs.lemmas.Grind.{common_steps}
use Rattle.std.proofs.Common.{rules, ◌≡◌, ◌-◌, get_or, arith}
use Rattle.std.proofs.{lemmas.Int.ints, lemmas.List.get_or_read}
use Rattle.qm_match.proofs.Chains.{passed_all, passed_more}
use Rattle.qm_match.proofs.weights.room_at.Goals.{After-index-entry-in-loop-entry}
use Rattle.qm_match.proofs.weights.room_at.Goals as goal

-- The entry after one of the chain.
read : (c : After-index-entry-in-loop-entry) → c.index-entry-in-loop-entry.result.now
    ≡ get_or c.args.fans.now.next.items (c.loop-entry.entry - 1) 0
read c = search (rules, get_or_read)

pub loop-entry-smaller : goal.loop-entry-smaller
loop-entry-smaller c = grind (arith, common_steps, c.requires.fans.nexts (c.loop-entry.entry - 1))

pub loop-entry-preserved : goal.loop-entry-preserved
loop-entry-preserved c =
    let next = read (goal.at.loop-entry-preserved c).After-index-entry-in-loop-entry in
    record {
      few = omega (arith, ints, c.loop-entry.invariant.few);
      low = omega (arith, c.requires.fans.nexts (c.loop-entry.entry - 1));
      done = passed_more _ _ (omega arith) next (λ d le. omega (arith, ints)) (omega (
        arith,
        ints,
        c.left_by-left.ensures.small,
      )) c.loop-entry.invariant.done;
    }

pub returns : goal.returns
returns c = record {
  few = c.loop-entry.invariant.few;
  each = passed_all _ c.requires.fans (omega arith) c.loop-entry.invariant.done;
}
