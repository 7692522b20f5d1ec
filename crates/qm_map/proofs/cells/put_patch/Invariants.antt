use Rattle.{std.proofs.Common.map, std.specs.List.flat_map, std.specs.List.range_with_len}
use Rattle.{def_map.specs.MapText.cell_line, def_remesh.specs.NewPoints.lengths_in, qm_map.specs.PatchLines.home_in}

abbrev pub invariant-loop-k : Rattle.qm_map.proofs.cells.put_patch.Given.invariant-loop-k
invariant-loop-k g l =
    g.T.Output.takes l.initial.out l.out
    (flat_map cell_line (map (home_in l.new.layout l.new.shares (lengths_in l.new.lengths) l.patch)
    (range_with_len 0 l.k)))
