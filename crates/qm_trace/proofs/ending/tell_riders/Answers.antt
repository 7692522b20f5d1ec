use Rattle.std.proofs.lemmas.Grind.{common_steps}
use Rattle.{std.proofs.Common.arith}
use Rattle.{std.proofs.lemmas.List.take_more}
use Rattle.{def_cut.specs.Motion.begun, qm_trace.proofs.Ends.riders_more}

pub loop-r-preserved : Rattle.qm_trace.proofs.ending.tell_riders.Goals.loop-r-preserved
loop-r-preserved c = grind (arith, common_steps, take_more c.args.riders.now c.loop-r.r (begun 0), riders_more)
