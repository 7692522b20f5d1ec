-- The place that is computed from where a new vertex lies.
use Rattle.std.specs.Prelude.{ℕ, [], ◌∷◌, map, slice_index_or, ℤ}
use Rattle.def_mesh.specs.Darts.{next_of, from_of, to_of}
use Rattle.def_mesh.specs.Faces.{Faces}
use Rattle.def_remesh.specs.Placings.{coordinate_in}
use Rattle.def_text.specs.Types.{Position, Positions}
use Rattle.def_written.specs.Places.{blend, on_the_way}
use Rattle.def_map.specs.declared.spot.EdgeSpot.{EdgeSpot}
use Rattle.def_map.specs.declared.spot.FaceSpot.{FaceSpot}
use Rattle.def_map.specs.declared.spot.Spot.{Spot}
use Rattle.def_map.specs.declared.spot.Spot.TheVariants.{AtVertex, InFace, OnEdge}

-- One coordinate of an old vertex.
abbrev pub coordinate_at : (places : Positions) (vertex axis : ℕ) → ℤ
coordinate_at places vertex axis = coordinate_in (slice_index_or places vertex []) axis

-- The position with these coordinates.
abbrev pub on_axes : (value : ℕ → ℤ) → Position
on_axes value = map value (0 ∷ 1 ∷ 2 ∷ [])

-- One coordinate of a point on an edge: so far along the way from the one end to the other.
abbrev pub between_ends : (faces : Faces) (places : Positions) (spot : EdgeSpot) (axis : ℕ) → ℤ
between_ends faces places spot axis =
    on_the_way (coordinate_at places (from_of faces spot.dart) axis) (coordinate_at places (to_of faces spot.dart) axis)
    spot.some spot.parts

-- One coordinate of a point in a face: the mean of the four corners, weighed in both directions.
abbrev pub in_face : (faces : Faces) (places : Positions) (spot : FaceSpot) (axis : ℕ) → ℤ
in_face faces places spot axis =
    blend spot.s spot.t (coordinate_at places (from_of faces spot.dart) axis)
    (coordinate_at places (from_of faces (next_of spot.dart)) axis)
    (coordinate_at places (from_of faces (next_of (next_of (next_of spot.dart)))) axis)
    (coordinate_at places (from_of faces (next_of (next_of spot.dart))) axis)

-- The place of a new vertex that lies there.
abbrev pub spot_place : (faces : Faces) (places : Positions) (spot : Spot) → Position
spot_place faces places (AtVertex u) = on_axes (coordinate_at places u)
spot_place faces places (OnEdge spot) = on_axes (between_ends faces places spot)
spot_place faces places (InFace spot) = on_axes (in_face faces places spot)
