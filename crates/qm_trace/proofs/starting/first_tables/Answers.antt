use Rattle.std.proofs.Common.{arith}
use Rattle.{feature_laws.proofs.First.origin_of}

pub invariant_of-starts : Rattle.qm_trace.proofs.starting.first_tables.Goals.invariant_of-starts
invariant_of-starts c = let course = c.args.course.now in grind (arith, origin_of course.mesh.now course.marks.now)
