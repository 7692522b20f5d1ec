use Rattle.std.proofs.Common.{◌≢◌, ℕ, ◌<◌, get_or}
use Rattle.def_mesh.specs.{Darts.to_of, Vertices.fan_of}

abbrev pub invariant-loop-d : Rattle.qm_marks.proofs.ends.dart_in_fan.Given.invariant-loop-d
invariant-loop-d l = (t : ℕ) → t < l.d-index → to_of l.mesh (get_or (fan_of l.mesh l.u) t 0) ≢ l.v
