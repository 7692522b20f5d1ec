use Rattle.def_mesh.specs.{Darts.twin_of, Components.is_lesser}
use Rattle.{std.proofs.Common.◌≡◌, std.proofs.Common.length, std.specs.List.filter, std.specs.List.range_with_len}

-- The edges of the darts before d have been counted.
abbrev pub invariant-loop-d : Rattle.qm_sing.proofs.classes.edge_count.Given.invariant-loop-d
invariant-loop-d l = l.edges ≡ length (filter (λ d. is_lesser d (twin_of l.mesh d)) (range_with_len 0 l.d))
