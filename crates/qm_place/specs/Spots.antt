-- Where new points lie in the old mesh, and where grid points lie in their patch.
use Rattle.std.specs.Prelude.{◌≡◌, ℕ, ◌+◌, ◌-◌, ◌*◌, ◌/◌, ◌%◌, ◌^◌, ◌<◌, ◌≤◌, List, length, ⊤, pos, ◌-ℤ◌}
use Rattle.def_layout.specs.Arcs.{long_at}
use Rattle.def_layout.specs.Gluings.{south, east, north, west}
use Rattle.def_layout.specs.Lengths.{Lengths, wide, high}
use Rattle.def_layout.specs.Layouts.{Layout, gluing_of}
use Rattle.def_map.specs.declared.home.Seen.{Seen}
use Rattle.def_map.specs.declared.spot.Spot.{Spot}
use Rattle.def_map.specs.declared.spot.Spot.TheVariants.{AtVertex, InFace, OnEdge}
use Rattle.def_written.specs.Numbers.{before_arc, before_patch}
use Rattle.def_written.specs.Places.{ONE, parameter_u, parameter_v, ArcSpacing}
use Rattle.def_remesh.specs.Placings.{rim_at, side_parameter}
use Rattle.def_remesh.specs.declared.places.Rim.{Rim}
use Rattle.qm_place.specs.declared.spots.GridPoint.{GridPoint}

-- Grid point (i, j) is one of a patch, on its sides or inside.
abbrev pub IsOnGrid : (rim : Rim) (i j : ℕ) → Type 0
IsOnGrid rim i j = (i ≤ rim.wide) × (j ≤ rim.high) × (0 < rim.wide) × (0 < rim.high)

-- The parameters of the four sides of a patch stand in the list.
abbrev pub HasRoom : (rim : Rim) (parameters : List ℕ) → Type 0
HasRoom rim parameters = rim.begin + 2 * (rim.wide + rim.high) ≤ length parameters

-- The parameters at the ends of the sides of a patch, which stand in no list.
pub record HasEnds (layout : Layout) (new : Lengths) (spacing : ArcSpacing) (patch : ℕ) : Type 0 where
  pub south : side_parameter layout new spacing patch south (wide (gluing_of layout) new patch)
      ≡ ONE * wide (gluing_of layout) (long_at layout.arcs) patch
  pub east : side_parameter layout new spacing patch east (high (gluing_of layout) new patch)
      ≡ ONE * high (gluing_of layout) (long_at layout.arcs) patch
  pub north : side_parameter layout new spacing patch north (wide (gluing_of layout) new patch) ≡ 0
  pub west : side_parameter layout new spacing patch west (high (gluing_of layout) new patch) ≡ 0

-- How many points lie inside a patch.
abbrev pub inner_of : (rims : List Rim) (patch : ℕ) → ℕ
inner_of rims patch = ((rim_at rims patch).wide - 1) * ((rim_at rims patch).high - 1)

-- The parameters of a grid point of a patch.
abbrev pub grid_point : (layout : Layout) (new : Lengths) (spacing : ArcSpacing) (patch i j : ℕ) → GridPoint
grid_point layout new spacing patch i j = record {
  u = parameter_u (gluing_of layout) (long_at layout.arcs) new spacing patch i j;
  v = parameter_v (gluing_of layout) (long_at layout.arcs) new spacing patch i j;
}

-- They are small.
abbrev pub IsSmall : (point : GridPoint) → Type 0
IsSmall point = (point.u ≤ 2 ^ 53) × (point.v ≤ 2 ^ 53)

-- A grid point, as it is seen from an old cell.
abbrev pub seen_from : (point : GridPoint) (column row : ℕ) → Seen
seen_from point column row =
    record { s = pos point.u -ℤ pos (column * ONE); t = pos point.v -ℤ pos (row * ONE) }

-- An inner point of the arcs lies on this one.
pub record IsAlong (layout : Layout) (new : Lengths) (arc place : ℕ) : Type 0 where
  pub low : arc < length layout.arcs
  pub from : before_arc new arc ≤ place
  pub upto : place - before_arc new arc + 1 < new arc

-- An inner point of the patches lies in this one.
pub record IsInside (layout : Layout) (new : Lengths) (patch place : ℕ) : Type 0 where
  pub low : patch < length layout.patches
  pub from : before_patch (gluing_of layout) new patch ≤ place
  pub column : (place - before_patch (gluing_of layout) new patch) % (wide (gluing_of layout) new patch - 1) + 1
      < wide (gluing_of layout) new patch
  pub row : (place - before_patch (gluing_of layout) new patch) / (wide (gluing_of layout) new patch - 1) + 1
      < high (gluing_of layout) new patch
  pub some : 1 < wide (gluing_of layout) new patch

-- The way along an edge has no more parts than places are computed for.
abbrev pub IsShort : (spot : Spot) → Type 0
IsShort (AtVertex u) = ⊤
IsShort (OnEdge spot) = spot.parts ≤ ONE
IsShort (InFace spot) = ⊤
