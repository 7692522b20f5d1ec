use Rattle.{std.proofs.Common.◌≡◌, std.proofs.Common.false, std.proofs.Common.take, std.specs.List.list_any}
use Rattle.{def_mesh.specs.Darts.twin_of, def_mesh.specs.Vertices.fan_of, def_feature.specs.Marks.goes_through}

abbrev pub invariant-loop-d : Rattle.qm_feature.proofs.breaking.Crossing.is_crossed.Given.invariant-loop-d
invariant-loop-d l = list_any (λ d. goes_through l.self.mesh.now l.self.marks.now (twin_of l.self.mesh.now d))
    (take l.d-index (fan_of l.self.mesh.now l.self.vertex)) ≡ false
