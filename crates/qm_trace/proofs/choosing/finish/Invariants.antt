use Rattle.{def_cut.specs.Views.IsMotionOn, qm_trace.specs.Left.left_of}
use Rattle.qm_trace.proofs.choosing.finish.Given as goal

abbrev pub invariant-events : goal.invariant-events
invariant-events l = record { motion : IsMotionOn l.mesh l.motion }

abbrev pub decreases-events : goal.decreases-events
decreases-events l = left_of l.mesh l.motion.state
