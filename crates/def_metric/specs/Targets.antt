-- How long an arc of a layout is in space, and what length is wanted of it.
use Rattle.std.specs.Prelude.{ℕ, ◌*◌, ◌/◌, List, [], length, slice_index_or, ℤ, ◌-ℤ◌, unsigned_abs}
use Rattle.def_math.specs.Counts.{count, count_below}
use Rattle.def_mesh.specs.Darts.{from_of, to_of}
use Rattle.def_mesh.specs.Faces.{Faces}
use Rattle.def_flow.specs.declared.net.Settings.{Settings}
use Rattle.def_flow.specs.declared.net.Weight.TheVariants.{Plain}
use Rattle.def_layout.specs.Arcs.{path_at}
use Rattle.def_layout.specs.Layouts.{Layout}
use Rattle.def_remesh.specs.Placings.{coordinate_in}
use Rattle.def_remesh.specs.Tasks.{Wish}
use Rattle.def_text.specs.Types.{Position, Positions}
use Rattle.def_metric.specs.Roots.{root_of}
use Rattle.def_metric.specs.declared.limits.TheConstants.{EDGE_PARTS}

-- The square of how far two numbers are apart.
abbrev pub squared_apart : (a b : ℤ) → ℕ
squared_apart a b = unsigned_abs (a -ℤ b) * unsigned_abs (a -ℤ b)

-- The square of the distance between two positions, in square millionths.
abbrev pub squared_between : (one other : Position) → ℕ
squared_between one other = count_below (λ axis. squared_apart (coordinate_in one axis) (coordinate_in other axis)) 3

-- The position of a vertex.
abbrev pub position_at : (places : Positions) (vertex : ℕ) → Position
position_at places vertex = slice_index_or places vertex []

-- The length of the edge of a dart, in whole millionths.
abbrev pub edge_length : (faces : Faces) (places : Positions) (dart : ℕ) → ℕ
edge_length faces places dart =
    root_of (squared_between (position_at places (from_of faces dart)) (position_at places (to_of faces dart)))

-- The measure of an arc: the sum of the lengths of its edges.
abbrev pub measure_of : (faces : Faces) (places : Positions) (darts : List ℕ) → ℕ
measure_of faces places darts = count (edge_length faces places) darts

-- The length that is wanted of it where new edges are to be so many millionths long, in thousandths of an edge.
abbrev pub target_of : (faces : Faces) (places : Positions) (edge : ℕ) (darts : List ℕ) → ℕ
target_of faces places edge darts = EDGE_PARTS * measure_of faces places darts / edge

-- The targets of all arcs of a layout.
abbrev pub targets : (faces : Faces) (places : Positions) (edge : ℕ) → Wish
targets faces places edge layout arc = target_of faces places edge (path_at layout.arcs arc).darts

-- Their sum.
abbrev pub wish_sum : (wish : Wish) (layout : Layout) → ℕ
wish_sum wish layout = count_below (wish layout) (length layout.arcs)

-- Targets are in thousandths, and all arcs are weighed alike.
abbrev pub edge_settings : (floor : ℕ) → Settings
edge_settings floor = record { p = 1; q = EDGE_PARTS; floor = floor; weight = Plain }
