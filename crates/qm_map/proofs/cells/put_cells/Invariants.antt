use Rattle.std.specs.List.{flat_map, range_with_len}
use Rattle.{std.proofs.Common.map, def_remesh.specs.NewPoints.lengths_in, qm_map.specs.PatchLines.patch_lines}

abbrev pub invariant-loop-patch : Rattle.qm_map.proofs.cells.put_cells.Given.invariant-loop-patch
invariant-loop-patch g l =
    g.T.Output.takes l.initial.out l.out
    (flat_map (patch_lines l.new.layout l.new.shares (lengths_in l.new.lengths))
    (map (λ p. p) (range_with_len 0 l.patch)))
