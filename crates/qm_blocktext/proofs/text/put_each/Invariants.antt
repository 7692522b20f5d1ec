use Rattle.std.specs.List.{flat_map, range_with_len}
use Rattle.{std.proofs.Common.map, qm_blocktext.specs.Gridded.lines_at}

abbrev pub invariant-loop-block : Rattle.qm_blocktext.proofs.text.put_each.Given.invariant-loop-block
invariant-loop-block g l =
    g.T.Output.takes l.initial.out l.out (flat_map (lines_at l.blocks) (map (λ b. b) (range_with_len 0 l.block)))
