use Rattle.std.proofs.lemmas.Grind.{common_steps}
use Rattle.std.proofs.Common.{rules, ◌≡◌, ◌<◌, true, map, length, get_or, ap, ◌∙◌, arith}
use Rattle.std.proofs.lemmas.List.{get_or_default, length-map}
use Rattle.qm_tmesh.proofs.{ArcTables.read_arc, UseTables.side_more}
use Rattle.{def_layout.specs.Arcs.Path, def_layout.specs.Arcs.path, qm_tmesh.specs.Uses.use_in}

pub loop-t-preserved : Rattle.qm_tmesh.proofs.sides.side.Goals.loop-t-preserved
loop-t-preserved c =
    let runs = c.args.runs.now in
    let (begins, split, so) = c.loop-t.invariant in
    let is : c.index-used.result.now ≡ use_in runs.uses.items (get_or c.args.line.now c.loop-t.t 0) =
    grind (arith, common_steps) in
    let low : c.index-used.result.now.arc < length (map path runs.arcs.items) = search rules in
    let arc = read_arc runs.arcs.items c.index-used.result.now.arc c.index.result.now
    (omega (arith, length-map runs.arcs.items path)) c.index.ensures in
    let long = ap (λ (p : Path). length p.darts) arc in
    rw c.in_ok-push.ensures.items (
      begins,
      split,
      side_more split so c.loop-t-test.true is (omega (arith, c.index.result.now.darts.ok.0)),
    )
