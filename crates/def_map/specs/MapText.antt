-- The text that says where the vertices and the faces of a new mesh lie in the old one, by the numbers of the file.
use Rattle.std.specs.Prelude.{
  ℕ,
  ◌+◌,
  ◌/◌,
  ◌%◌,
  ◌==◌,
  if◌then◌else◌,
  ◌++◌,
  codes,
  decimal,
  List,
  map,
  Option,
  slice_index,
}
use Rattle.std.specs.Fmt.{signed_decimal}
use Rattle.std.specs.List.{flat_map, range_with_len}
use Rattle.def_io.specs.Bytes.{Bytes}
use Rattle.def_layout.specs.Lengths.{Lengths}
use Rattle.def_layout.specs.Layouts.{Layout, gluing_of}
use Rattle.def_mesh.specs.Darts.{from_of, to_of}
use Rattle.def_mesh.specs.Faces.{Faces}
use Rattle.def_text.specs.FaceSet.{FaceSet}
use Rattle.def_written.specs.NewFaces.{face_count}
use Rattle.def_written.specs.Numbers.{vertices}
use Rattle.def_written.specs.Places.{ONE}
use Rattle.def_map.specs.Homes.{home_at}
use Rattle.def_map.specs.Spots.{spot_at}
use Rattle.def_map.specs.declared.home.Home.{Home}
use Rattle.def_map.specs.declared.home.Seen.{Seen}
use Rattle.def_map.specs.declared.spot.EdgeSpot.{EdgeSpot}
use Rattle.def_map.specs.declared.spot.FaceSpot.{FaceSpot}
use Rattle.def_map.specs.declared.spot.Spot.{Spot}
use Rattle.def_map.specs.declared.spot.Spot.TheVariants.{AtVertex, InFace, OnEdge}

-- The number of a vertex in the file.
abbrev pub file_number : (names : List ℕ) (vertex : ℕ) → ℕ
file_number names vertex = slice_index names vertex

-- The line of a new vertex that lies at this old one.
abbrev pub at_vertex_line : (vertex : ℕ) → Bytes
at_vertex_line vertex = codes "vertex " ++ decimal vertex ++ codes "\n"

-- The line of one that lies so far along the way from one old vertex to another: so many parts of that many, or where
-- the parts are those of a parameter, so many of these.
abbrev pub on_edge_line : (from to some parts : ℕ) → Bytes
on_edge_line from to some parts =
    if parts == ONE then
    codes "share " ++ decimal from ++ codes " " ++ decimal to ++ codes " " ++ decimal some ++ codes "\n"
    else
    codes "edge " ++ decimal from ++ codes " " ++ decimal to ++ codes " " ++ decimal some ++ codes " " ++ decimal parts
    ++ codes "\n"

-- The line of one that lies on an edge. At the beginning of the edge it lies at the old vertex there.
abbrev pub edge_line : (faces : Faces) (names : List ℕ) (spot : EdgeSpot) → Bytes
edge_line faces names spot =
    if spot.some == 0 then at_vertex_line (file_number names (from_of faces spot.dart))
    else on_edge_line (file_number names (from_of faces spot.dart)) (file_number names (to_of faces spot.dart))
    spot.some spot.parts

-- The line of one that lies in a face: the face and the corner of it where its south dart begins, both from 1.
abbrev pub face_line : (spot : FaceSpot) → Bytes
face_line spot = codes "face " ++ decimal (spot.dart / 4 + 1) ++ codes " " ++ decimal (spot.dart % 4 + 1)
    ++ codes " " ++ decimal spot.s ++ codes " " ++ decimal spot.t ++ codes "\n"

-- The line of a new vertex.
abbrev pub spot_line : (faces : Faces) (names : List ℕ) (spot : Spot) → Bytes
spot_line faces names (AtVertex v) = at_vertex_line (file_number names v)
spot_line faces names (OnEdge spot) = edge_line faces names spot
spot_line faces names (InFace spot) = face_line spot

-- A corner of a new face.
abbrev pub seen_text : (seen : Seen) → Bytes
seen_text seen = codes " " ++ signed_decimal seen.s ++ codes " " ++ signed_decimal seen.t

-- The old face and its corner, as in the line of a vertex.
abbrev pub cell_front : (dart : ℕ) → Bytes
cell_front dart = codes "cell " ++ decimal (dart / 4 + 1) ++ codes " " ++ decimal (dart % 4 + 1)

-- The line of a new face: the old face in which it lies, and its corners in the order of its `f` line.
abbrev pub cell_line : (home : Home) → Bytes
cell_line home = cell_front home.dart ++ (flat_map seen_text home.corners ++ codes "\n")

-- The first two lines.
abbrev pub map_head : (vertices faces : ℕ) → Bytes
map_head vertices faces =
    codes "quadq map 1\nvertices " ++ decimal vertices ++ codes " faces " ++ decimal faces ++ codes "\n"

-- The lines of all new vertices, by number.
abbrev pub vertex_lines : (faces : Faces) (names : List ℕ) (layout : Layout) (shares : Option (List ℕ)) (new : Lengths)
    → Bytes
vertex_lines faces names layout shares new = flat_map (spot_line faces names)
    (map (spot_at layout shares new) (range_with_len 0 (vertices (gluing_of layout) new)))

-- Those of all new faces.
abbrev pub cell_lines : (layout : Layout) (shares : Option (List ℕ)) (new : Lengths) → Bytes
cell_lines layout shares new =
    flat_map cell_line (map (home_at layout shares new) (range_with_len 0 (face_count (gluing_of layout) new)))

-- The whole text.
abbrev pub map_text : (soup : FaceSet) (layout : Layout) (shares : Option (List ℕ)) (new : Lengths) → Bytes
map_text soup layout shares new =
    map_head (vertices (gluing_of layout) new) (face_count (gluing_of layout) new)
    ++ (vertex_lines soup.faces soup.names layout shares new ++ cell_lines layout shares new)
