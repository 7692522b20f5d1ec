use Rattle.{std.proofs.Common.arith, mesh_laws.proofs.Flood.all_below}
use Rattle.qm_marks.proofs.ends.dart_between.Goals as goal

pub returns-then-u-vertices-clause-none : goal.returns-then-u-vertices-clause-none
returns-then-u-vertices-clause-none c none d low from to = omega (arith, all_below c.args.mesh.now d low)
