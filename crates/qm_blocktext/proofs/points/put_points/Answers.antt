use Rattle.qm_output.proofs.Prefixes.{of_error, stops_at_number, takes_number}
use Rattle.{std.proofs.Common.◌≡◌, std.proofs.Common.◌+◌, std.proofs.Common.arith, def_blocks.specs.BlockTexts.row_text}
use Rattle.{qm_blocktext.specs.Gridded.height_in, qm_blocktext.specs.Gridded.row_in}
use Rattle.qm_blocktext.proofs.points.put_points.Goals as goal

pub put_row-requires-clause-row : goal.put_row-requires-clause-row
put_row-requires-clause-row g c = omega (arith, c.loop-j-test.true, c.rim-rows.ensures.high)

pub returns-in_err-put_row-clause-part : goal.returns-in_err-put_row-clause-part
returns-in_err-put_row-clause-part g c =
    let laws = g.met.T.Output in
    of_error c.from_residual.result
    (stops_at_number g.T.Output.takes g.T.Output.stops laws.stops_later laws.stops_before row_text
    (row_in c.args.new.now c.args.block) (height_in c.args.new.now c.args.block + 1) c.loop-j.j _ _ _
    (omega (arith, c.loop-j-test.true, c.rim-rows.ensures.high)) c.loop-j.invariant c.in_err-put_row.ensures.part)

pub loop-j-preserved : goal.loop-j-preserved
loop-j-preserved g c = takes_number g.T.Output.takes g.met.T.Output.takes_more row_text
    (row_in c.args.new.now c.args.block) c.loop-j.j _ _ _ c.loop-j.invariant c.in_ok-put_row.ensures.whole

pub returns-clause-whole : goal.returns-clause-whole
returns-clause-whole g c =
    let all : height_in c.args.new.now c.args.block + 1 ≡ c.loop-j.j =
    omega (arith, c.rim-rows.ensures.high, c.loop-j-test.false, c.loop-j.auto.j-end) in
    rw all c.loop-j.invariant
