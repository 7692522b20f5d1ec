-- What is placed: a layout, the new lengths of its arcs, and the shares by which their points are spaced.
use Rattle.std.specs.Prelude.{ℕ, List, Option}
use Rattle.def_layout.specs.Lengths.{Lengths}
use Rattle.def_layout.specs.Layouts.{Layout, layout_of}
use Rattle.def_remesh.specs.NewPoints.{lengths_in}
use Rattle.def_remesh.specs.Placings.{shares_in, spacing_in}
use Rattle.def_written.specs.Places.{ArcSpacing}
use Rattle.qm_place.specs.declared.placed.Placed.{Placed}

abbrev pub layout_in : (placed : Placed) → Layout
layout_in placed = layout_of placed.t.now

abbrev pub lengths_by : (placed : Placed) → Lengths
lengths_by placed = lengths_in placed.tables.now.lengths.items

abbrev pub shares_by : (placed : Placed) → Option (List ℕ)
shares_by placed = shares_in placed.tables.now.spaced

abbrev pub spacing_at : (placed : Placed) → ArcSpacing
spacing_at placed = spacing_in (layout_in placed) placed.tables.now
