use Rattle.std.proofs.{Common.◌≡◌, Common.◌∙◌, Common.ap, Common.sym, Common.arith, lemmas.List.length-map}
use Rattle.def_layout.specs.{Gluings.Way, Layouts.layout_of, Layouts.way_number}
use Rattle.{def_cut.specs.Grids.rectangle, def_remesh.specs.NewPoints.lengths_in, qm_offsets.specs.Fours.arcs_on}
use Rattle.{qm_offsets.proofs.Whole.way_for, qm_blocks.proofs.Measures.side_summed, qm_blocks.proofs.Tables.side_put}
use Rattle.qm_blocks.proofs.spots.put_side.Goals as goal

pub put_uses-requires-clause-summed : goal.put_uses-requires-clause-summed
put_uses-requires-clause-summed c =
    let way : (way : Way) × (way_number way ≡ c.args.side) = way_for c.args.side c.requires.side in
    side_summed c.args.measured.now c.args.block c.requires.block way.0
    (c.side_of.ensures ∙ ap (arcs_on (layout_of c.args.measured.now.t.now) c.args.block) (sym way.1))

pub overflow_cast-block : goal.overflow_cast-block
overflow_cast-block c =
    let long = length-map c.args.measured.now.t.now.patches.items rectangle in
    omega (arith, c.requires.block, c.args.measured.now.measured.few)

pub returns : goal.returns
returns c way is = side_put (layout_of c.args.measured.now.t.now) (lengths_in c.args.measured.now.x.now) c.args.block
    way c.side_of.result.now c.name_of.result c.args.table.now c.put_uses.new.table
    (c.side_of.ensures ∙ ap (arcs_on (layout_of c.args.measured.now.t.now) c.args.block) (sym is))
    (c.name_of.ensures way is) (omega (
      arith,
      c.requires.block,
      length-map c.args.measured.now.t.now.patches.items rectangle,
    )) c.put_uses.ensures
