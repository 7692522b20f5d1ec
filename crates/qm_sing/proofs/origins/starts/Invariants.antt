use Rattle.def_mesh.specs.Components.{is_start, seeds}
use Rattle.{std.proofs.Common.◌≡◌, std.specs.List.filter, std.specs.List.range_with_len}

abbrev pub invariant-loop-d : Rattle.qm_sing.proofs.origins.starts.Given.invariant-loop-d
invariant-loop-d l = let faces = l.classed.mesh.now in
    l.starts.items ≡ filter (is_start faces (seeds faces)) (range_with_len 0 l.d)
