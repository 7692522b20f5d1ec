use Rattle.std.proofs.Common.{rules, ◌∙◌}
use Rattle.{qm_obj.proofs.JoinLemmas.joined_last, qm_obj.proofs.JoinLemmas.joining_more, std.proofs.Common.sym}
use Rattle.qm_obj.proofs.joining.join.Goals as goal

pub returns-then-not-goes_on : goal.returns-then-not-goes_on
returns-then-not-goes_on c = search (rules, joined_last)

pub loop-next-preserved : goal.loop-next-preserved
loop-next-preserved c = rw c.in_ok-push_spaced.ensures (joining_more c.loop-next-test.true c.args.rest.now.within
    c.line-line.ensures c.loop-next.invariant (sym c.goes_on.ensures ∙ c.if-not-goes_on.false))
