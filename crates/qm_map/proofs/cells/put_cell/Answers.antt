use Rattle.{std.proofs.lemmas.Result.on_err_weaker, std.proofs.lemmas.Result.on_ok_weaker, std.specs.List.flat_map}
use Rattle.{def_map.specs.MapText.cell_front, def_map.specs.MapText.seen_text, qm_output.proofs.Prefixes.of_error}
use Rattle.qm_map.proofs.cells.put_cell.Goals as goal

pub returns-in_err-put_front-clause-part : goal.returns-in_err-put_front-clause-part
returns-in_err-put_front-clause-part g c = of_error c.from_residual.result
    (g.met.T.Output.stops_before _ _ (cell_front c.args.home.now.dart) _ c.in_err-put_front.ensures.part)

pub returns-in_err-put_corners-clause-part : goal.returns-in_err-put_corners-clause-part
returns-in_err-put_corners-clause-part g c = of_error c.from_residual-in_err-put_corners.result
    (g.met.T.Output.stops_later _ _ _ (cell_front c.args.home.now.dart) _ c.in_ok-put_front.ensures.whole
    (g.met.T.Output.stops_before _ _ (flat_map seen_text c.args.home.now.corners) _ c.in_err-put_corners.ensures.part))

pub returns : goal.returns
returns g c =
    let laws = g.met.T.Output in
    let front = cell_front c.args.home.now.dart in
    let corners = flat_map seen_text c.args.home.now.corners in
    record {
      whole = on_ok_weaker c.put.result (λ last. laws.takes_more _ _ _ front _ c.in_ok-put_front.ensures.whole
          (laws.takes_more _ _ _ corners _ c.in_ok-put_corners.ensures.whole last)) c.put.ensures.whole;
      part = on_err_weaker c.put.result (λ last. laws.stops_later _ _ _ front _ c.in_ok-put_front.ensures.whole
          (laws.stops_later _ _ _ corners _ c.in_ok-put_corners.ensures.whole last)) c.put.ensures.part;
    }
