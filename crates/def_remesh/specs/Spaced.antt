-- How the points of a new mesh are spaced along the arcs: evenly, or by a share for each dart of the old mesh.
use Rattle.std.specs.Prelude.{ℕ, List, Option, None, Some, slice_index_or}
use Rattle.def_layout.specs.Arcs.{dart_at, long_at}
use Rattle.def_layout.specs.Lengths.{Lengths}
use Rattle.def_layout.specs.Layouts.{Layout}
use Rattle.def_remesh.specs.declared.limits.TheConstants.{EDGE_SHARE}
use Rattle.def_written.specs.Places.{even, ArcSpacing}
use Rattle.def_written.specs.Spacings.{shared, Shares}

-- The shares of the edges of arcs: those of their darts, in the direction of the arc.
abbrev pub shares_along : (layout : Layout) (shares : List ℕ) → Shares
shares_along layout shares arc edge = slice_index_or shares (dart_at layout.arcs arc edge) EDGE_SHARE

-- The spacing by shares, even without them.
abbrev pub spacing_by : (layout : Layout) (shares : Option (List ℕ)) (new : Lengths) → ArcSpacing
spacing_by layout None new = even (long_at layout.arcs) new
spacing_by layout (Some shares) new = shared (long_at layout.arcs) new (shares_along layout shares)
