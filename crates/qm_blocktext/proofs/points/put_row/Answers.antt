use Rattle.std.proofs.Common.{◌≡◌, ◌+◌, subst, arith}
use Rattle.qm_blocktext.specs.Gridded.{place_in, width_in}
use Rattle.qm_output.proofs.Prefixes.{of_error, stops_at_number, takes_number}
use Rattle.{def_blocks.specs.BlockTexts.point_line, def_text.specs.Types.Position}
use Rattle.qm_blocktext.proofs.points.put_row.Goals as goal

pub point-v-requires-clause-column : goal.point-v-requires-clause-column
point-v-requires-clause-column g c = omega (arith, c.loop-i-test.true, c.rim-points.ensures.wide)

pub returns-in_err-put_point-clause-part : goal.returns-in_err-put_point-clause-part
returns-in_err-put_point-clause-part g c =
    let laws = g.met.T.Output in
    let new = c.args.new.now in
    let here = rw (c.requires.even, c.point-v.ensures.number) at c.place_near.ensures.value in
    of_error c.from_residual.result (stops_at_number g.T.Output.takes g.T.Output.stops laws.stops_later
    laws.stops_before point_line (place_in new c.args.block c.args.j) (width_in new c.args.block + 1) c.loop-i.i _ _ _
    (omega (arith, c.loop-i-test.true, c.rim-points.ensures.wide)) c.loop-i.invariant
    (subst (λ (p : Position). g.T.Output.stops c.loop-i.out c.put_point.new.out (point_line p)) here
    c.in_err-put_point.ensures.part))

pub loop-i-preserved : goal.loop-i-preserved
loop-i-preserved g c =
    let here = rw (c.requires.even, c.point-v.ensures.number) at c.place_near.ensures.value in
    takes_number g.T.Output.takes g.met.T.Output.takes_more point_line (place_in c.args.new.now c.args.block c.args.j)
    c.loop-i.i _ _ _ c.loop-i.invariant (subst (λ (p : Position). g.T.Output.takes c.loop-i.out c.put_point.new.out
    (point_line p)) here c.in_ok-put_point.ensures.whole)

pub returns-clause-whole : goal.returns-clause-whole
returns-clause-whole g c =
    let all : width_in c.args.new.now c.args.block + 1 ≡ c.loop-i.i =
    omega (arith, c.rim-points.ensures.wide, c.loop-i-test.false, c.loop-i.auto.i-end) in
    rw all c.loop-i.invariant
