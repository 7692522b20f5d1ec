use Rattle.std.proofs.Common.{◌≡◌, map, not}
use Rattle.{std.specs.List.range_with_len, def_mesh.specs.Kinds.is_inner, def_mesh.specs.Kinds.is_singular}

abbrev pub invariant-loop-v : Rattle.qm_trace.proofs.ground.ground_of.Given.invariant-loop-v
invariant-loop-v l = record {
  boundary : l.boundary.items ≡ map (λ v. not (is_inner l.mesh v)) (range_with_len 0 l.v);
  singular : l.singular.items ≡ map (is_singular l.mesh) (range_with_len 0 l.v);
}
