use Rattle.std.proofs.Common.{◌≡◌, length, arith, rules}
use Rattle.def_map.specs.MapText.{seen_text}
use Rattle.qm_output.proofs.Prefixes.{of_error, stops_at_item}
use Rattle.qm_map.proofs.cells.put_corners.Goals as goal

pub returns-in_err-put_corner-clause-part : goal.returns-in_err-put_corner-clause-part
returns-in_err-put_corner-clause-part g c =
    let laws = g.met.T.Output in
    let four : length c.args.corners.now ≡ 4 = search rules in
    of_error c.from_residual.result (stops_at_item g.T.Output.takes g.T.Output.stops laws.stops_later laws.stops_before
    seen_text c.args.corners.now c.loop-seen.seen-index _ _ _ _ (omega (arith, c.loop-seen-test.true, four))
    c.loop-seen.invariant c.in_err-put_corner.ensures.part)
