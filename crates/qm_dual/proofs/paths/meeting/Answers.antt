use Rattle.std.proofs.Common.{rules, ◌≡◌, ◌-◌, slice_index, ◌∙◌, sym, arith}
use Rattle.qm_dual.proofs.paths.meeting.Goals.{then-loop-first-test+then-second-ne0+else-heads-first}
use Rattle.qm_dual.proofs.paths.meeting.Goals.{then-loop-first-test+else-second-ne0, else-loop-first-test}
use Rattle.qm_dual.proofs.Tallies.{meeting_found, meeting_none}
use Rattle.qm_dual.proofs.paths.meeting.Goals as goal

pub returns-else-second-eq0-clause-least : goal.returns-else-second-eq0-clause-least
returns-else-second-eq0-clause-least c =
    let some = c.if-second-eq0.false in
    let heads : slice_index c.args.heads.now (c.loop-first.first - 1)
    ≡ slice_index c.args.heads.now (c.loop-first.second - 1) = grind (arith, c.loop-first-test.branch, some) in
    λ k. meeting_found c.args.d.now.nest.nested c.requires.headed c.loop-first.first c.loop-first.second
    (c.loop-first.first - 1) (c.loop-first.second - 1) c.max.result c.max.ensures (omega arith) (omega arith)
    (omega arith) (omega arith) heads k ∙ sym (c.loop-first.invariant.same k)

pub returns-then-second-eq0-clause-least : goal.returns-then-second-eq0-clause-least
returns-then-second-eq0-clause-least c = search (rules, meeting_none)
