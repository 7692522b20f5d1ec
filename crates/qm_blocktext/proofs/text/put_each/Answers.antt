use Rattle.std.proofs.Common.{◌≡◌, ◌<◌, length, map-id, arith}
use Rattle.qm_output.proofs.Prefixes.{of_error, stops_at_number, takes_number}
use Rattle.{std.specs.List.range_with_len, qm_blocktext.specs.Gridded.lines_at}
use Rattle.qm_blocktext.proofs.text.put_each.Goals as goal

pub returns-in_err-put_block-clause-part : goal.returns-in_err-put_block-clause-part
returns-in_err-put_block-clause-part g c =
    let laws = g.met.T.Output in
    let blocks = c.args.blocks.now in
    let low : c.loop-block.block < length blocks.points.layout.patches =
    omega (arith, c.loop-block-test.true, c.len-block-end.ensures, blocks.links.ok.0, blocks.linked) in
    of_error c.from_residual.result (rw (← (map-id (range_with_len 0 (length blocks.points.layout.patches))))
    (stops_at_number g.T.Output.takes g.T.Output.stops laws.stops_later laws.stops_before (lines_at blocks) (λ b. b)
    (length blocks.points.layout.patches) c.loop-block.block _ _ _ low c.loop-block.invariant
    c.in_err-put_block.ensures.part))

pub loop-block-preserved : goal.loop-block-preserved
loop-block-preserved g c = takes_number g.T.Output.takes g.met.T.Output.takes_more (lines_at c.args.blocks.now) (λ b. b)
    c.loop-block.block _ _ _ c.loop-block.invariant c.in_ok-put_block.ensures.whole

pub returns-clause-whole : goal.returns-clause-whole
returns-clause-whole g c =
    let blocks = c.args.blocks.now in
    let all : length blocks.points.layout.patches ≡ c.loop-block.block = omega (arith, blocks.links.ok.0) in
    rw (all, ← (map-id (range_with_len 0 c.loop-block.block))) c.loop-block.invariant
