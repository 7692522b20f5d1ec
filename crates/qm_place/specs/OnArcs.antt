-- The spacing of the new points of arcs.
use Rattle.def_layout.specs.Layouts.{layout_of}
use Rattle.def_remesh.specs.NewPoints.{lengths_in}
use Rattle.def_remesh.specs.Placings.{shares_in}
use Rattle.def_remesh.specs.Spaced.{spacing_by}
use Rattle.def_written.specs.Places.{ArcSpacing}
use Rattle.qm_place.specs.declared.arc_places.ArcPlaces.{ArcPlaces}

abbrev pub spacing_on : (places : ArcPlaces) → ArcSpacing
spacing_on places = spacing_by (layout_of places.t.now) (shares_in places.spaced.now) (lengths_in places.lengths.now)
