-- The soup of the new mesh: the places of its points and its faces.
use Rattle.std.specs.Prelude.{ℕ, map, slice_index_or, List, [], ◌∷◌, ℤ, pos, Option, None}
use Rattle.std.specs.List.{range_with_len}
use Rattle.def_mesh.specs.Faces.{Faces}
use Rattle.def_layout.specs.Arcs.{long_at}
use Rattle.def_layout.specs.Lengths.{Lengths}
use Rattle.def_layout.specs.Layouts.{Layout, gluing_of}
use Rattle.def_text.specs.FaceSet.{FaceSet}
use Rattle.def_text.specs.Text.{numbers_to}
use Rattle.def_text.specs.Types.{Position, Positions}
use Rattle.def_written.specs.Points.{Point}
use Rattle.def_written.specs.Numbers.{vertices}
use Rattle.def_written.specs.NewFaces.{new_faces}
use Rattle.def_written.specs.Places.{Coordinate, place_of}
use Rattle.def_remesh.specs.NewPoints.{old_vertex, point_at}
use Rattle.def_remesh.specs.Spaced.{spacing_by}

-- One coordinate of each old vertex, by its point: 0, 1 and 2 are the axes.
abbrev pub coordinate : (faces : Faces) (layout : Layout) (places : Positions) (axis : ℕ) → Coordinate
coordinate faces layout places axis point =
    slice_index_or (slice_index_or places (old_vertex faces layout point) []) axis (pos 0)

-- One coordinate of a new point.
abbrev pub new_coordinate : (faces : Faces) (layout : Layout) (places : Positions) (shares : Option (List ℕ))
    (new : Lengths) (point : Point) (axis : ℕ) → ℤ
new_coordinate faces layout places shares new point axis =
    place_of (gluing_of layout) (long_at layout.arcs) new (spacing_by layout shares new)
    (coordinate faces layout places axis) point

-- The place of the new vertex v.
abbrev pub spaced_place : (faces : Faces) (layout : Layout) (places : Positions) (shares : Option (List ℕ))
    (new : Lengths) (v : ℕ) → Position
spaced_place faces layout places shares new v =
    map (new_coordinate faces layout places shares new (point_at (gluing_of layout) new v)) (0 ∷ 1 ∷ 2 ∷ [])

-- With even spacing.
abbrev pub new_place : (faces : Faces) (layout : Layout) (places : Positions) (new : Lengths) (v : ℕ) → Position
new_place faces layout places new v = spaced_place faces layout places None new v

-- The places of all new vertices, in the order of their numbers.
abbrev pub new_places : (faces : Faces) (layout : Layout) (places : Positions) (shares : Option (List ℕ))
    (new : Lengths) → Positions
new_places faces layout places shares new =
    map (spaced_place faces layout places shares new) (range_with_len 0 (vertices (gluing_of layout) new))

-- The soup of the new mesh, with its vertices numbered from 1.
abbrev pub spaced_soup : (old : FaceSet) (layout : Layout) (shares : Option (List ℕ)) (new : Lengths) → FaceSet
spaced_soup old layout shares new = record {
  pos = new_places old.faces layout old.pos shares new;
  faces = new_faces (gluing_of layout) new;
  names = numbers_to (vertices (gluing_of layout) new);
}

-- With even spacing.
abbrev pub new_soup : (old : FaceSet) (layout : Layout) (new : Lengths) → FaceSet
new_soup old layout new = spaced_soup old layout None new
