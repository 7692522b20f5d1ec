use Rattle.std.proofs.{Common.◌≡◌, Common.length, Common.◌∙◌, Common.ap, Common.sym, Common.arith}
use Rattle.std.proofs.{lemmas.List.length-map}
use Rattle.def_layout.specs.{Arcs.path, Gluings.Way, Layouts.layout_of, Layouts.way_number}
use Rattle.qm_offsets.proofs.Whole.{arcs_low, side_long, way_for}
use Rattle.{def_cut.specs.Grids.rectangle, def_remesh.specs.NewPoints.lengths_in, qm_offsets.specs.Fours.arcs_on}
use Rattle.qm_offsets.proofs.sides.starts_of.Goals as goal

same : (c : goal.After-side_starts-arg-1) (way : Way) → way_number way ≡ c.args.side → c.side_of-arcs.result.now
    ≡ arcs_on (layout_of c.args.summed.now.t.now) c.args.patch (way_number way)
same c way is = c.side_of-arcs.ensures ∙ ap (arcs_on (layout_of c.args.summed.now.t.now) c.args.patch) (sym is)

pub side_starts-requires-clause-low : goal.side_starts-requires-clause-low
side_starts-requires-clause-low c =
    let way : (way : Way) × (way_number way ≡ c.args.side) = way_for c.args.side c.requires.side in
    arcs_low (layout_of c.args.summed.now.t.now) c.args.summed.now.sides.paved c.args.patch way.0
    (length c.args.summed.now.lengths.now) c.side_of-arcs.result.now
    (omega (arith, c.requires.low, length-map c.args.summed.now.t.now.patches.items rectangle))
    (omega (arith, c.args.summed.now.long, length-map c.args.summed.now.t.now.arcs.items path)) (same c way.0 way.1)

pub side_starts-requires-clause-small : goal.side_starts-requires-clause-small
side_starts-requires-clause-small c =
    let way : (way : Way) × (way_number way ≡ c.args.side) = way_for c.args.side c.requires.side in
    omega (
      arith,
      side_long (layout_of c.args.summed.now.t.now) c.args.patch way.0 (lengths_in c.args.summed.now.lengths.now)
          c.side_of-arcs.result.now (same c way.0 way.1),
      c.args.summed.now.small c.args.patch way.0 c.requires.low,
    )
