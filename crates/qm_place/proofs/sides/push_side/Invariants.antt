use Rattle.def_layout.specs.{Layouts.gluing_of, Layouts.way_number, Layouts.layout_of, Arcs.long_at, Lengths.reach}
use Rattle.{def_layout.specs.Gluings.Way, qm_place.specs.OnArcs.spacing_on, qm_place.specs.Pushed.ArePushed}
use Rattle.{def_remesh.specs.NewPoints.lengths_in, def_remesh.specs.Placings.side_parameter, std.proofs.Common.◌≡◌}

abbrev pub invariant-loop-used : Rattle.qm_place.proofs.sides.push_side.Given.invariant-loop-used
invariant-loop-used l = record {
  pushed : (way : Way) → way_number way ≡ l.fn.side → ArePushed l.fn.parameters.items l.parameters.items
      (reach (gluing_of (layout_of l.places.t.now)) (lengths_in l.places.lengths.now) l.patch way l.used-index)
      (side_parameter (layout_of l.places.t.now) (lengths_in l.places.lengths.now) (spacing_on l.places) l.patch way);
  before : (way : Way) → way_number way ≡ l.fn.side → l.before
      ≡ reach (gluing_of (layout_of l.places.t.now)) (long_at (layout_of l.places.t.now).arcs) l.patch way l.used-index;
}
