use Rattle.{std.proofs.Common.subst, def_matching.specs.Dual.dual, def_flow.specs.Network.network}
use Rattle.{qm_solve.specs.Rounds.IsRound, qm_solve.specs.declared.round.Round.Round, qm_solve.proofs.Rounds.solved}
use Rattle.qm_solve.proofs.descent.turn.Goals as goal

pub returns-then-descent-eq1-clause-done : goal.returns-then-descent-eq1-clause-done
returns-then-descent-eq1-clause-done c = solved (network c.args.descent.now.net.whole.now) c.args.descent.now.x.items
    c.args.descent.now.step (dual c.in-Least.dual) c.args.descent.now.net.bounds c.args.descent.now.start
    c.if-descent-eq1.true (subst (λ (r : Round). IsRound (network c.args.descent.now.net.whole.now)
    c.args.descent.now.step c.args.descent.now.x.items r) c.in-Least.is c.in_ok-x.ensures)
