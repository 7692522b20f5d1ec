use Rattle.{std.proofs.Common.◌≡◌, std.proofs.Common.false, std.proofs.Common.take, std.specs.List.list_any}
use Rattle.{def_mesh.specs.Darts.prev_of, def_mesh.specs.Vertices.fan_of, def_cut.specs.FullCut.is_on}

abbrev pub invariant-loop-e : Rattle.qm_trace.proofs.telling.is_end.Given.invariant-loop-e
invariant-loop-e l = list_any (λ e. is_on l.taken (prev_of e)) (take l.e-index (fan_of l.mesh l.v)) ≡ false
