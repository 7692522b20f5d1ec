use Rattle.std.specs.List.{flat_map, range_with_len}
use Rattle.{std.proofs.Common.map, qm_blocktext.specs.Gridded.row_in, def_blocks.specs.BlockTexts.row_text}

abbrev pub invariant-loop-j : Rattle.qm_blocktext.proofs.points.put_points.Given.invariant-loop-j
invariant-loop-j g l =
    g.T.Output.takes l.initial.out l.out (flat_map row_text (map (row_in l.new l.block) (range_with_len 0 l.j)))
