use Rattle.std.proofs.Common.{◌≡◌, false, take}
use Rattle.{std.specs.List.list_any, def_mesh.specs.Vertices.fan_of, def_cut.specs.FullCut.is_on}

abbrev pub invariant-loop-d : Rattle.qm_feature.proofs.breaking.Crossing.is_touched.Given.invariant-loop-d
invariant-loop-d l = list_any (is_on l.self.marks.now) (take l.d-index (fan_of l.self.mesh.now l.self.vertex)) ≡ false
