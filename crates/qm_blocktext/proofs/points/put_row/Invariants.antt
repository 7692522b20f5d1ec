use Rattle.std.specs.List.{flat_map, range_with_len}
use Rattle.{std.proofs.Common.map, qm_blocktext.specs.Gridded.place_in, def_blocks.specs.BlockTexts.point_line}

abbrev pub invariant-loop-i : Rattle.qm_blocktext.proofs.points.put_row.Given.invariant-loop-i
invariant-loop-i g l =
    g.T.Output.takes l.initial.out l.out (flat_map point_line (map (place_in l.new l.block l.j) (range_with_len 0 l.i)))
