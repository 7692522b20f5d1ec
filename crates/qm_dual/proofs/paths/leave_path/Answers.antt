use Rattle.std.proofs.Common.{◌-◌, arith}
use Rattle.qm_dual.proofs.Tallies.{leave_path, leave_path_back}
use Rattle.qm_dual.proofs.paths.leave_path.Goals as goal

pub returns-then-heads-a-clause-same : goal.returns-then-heads-a-clause-same
returns-then-heads-a-clause-same c = rw c.past_head.ensures.value (leave_path c.args.d.now.nest.nested c.requires.headed
    c.args.a c.args.b (c.args.a - 1) (c.args.b - 1) (omega arith) (omega arith) c.requires.first.1 c.requires.second.1
    c.if-heads-a.true)

pub returns-else-heads-a-clause-same : goal.returns-else-heads-a-clause-same
returns-else-heads-a-clause-same c = rw c.past_head-else-heads-a.ensures.value (leave_path_back
    c.args.d.now.nest.nested c.requires.headed c.args.a c.args.b (c.args.a - 1) (c.args.b - 1) (omega arith)
    (omega arith) c.requires.first.1 c.requires.second.1 (omega arith))
