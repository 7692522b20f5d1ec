-- The text of a traced mesh with its layout. Vertices, arcs and patches count from 1.
use Rattle.std.specs.Prelude.{ℕ, ◌+◌, List, [], ◌∷◌, ◌++◌, length, map, codes, decimal}
use Rattle.std.specs.Fmt.{signed_decimal}
use Rattle.std.specs.List.{flat_map, range_with_len}
use Rattle.def_io.specs.Bytes.{Bytes}
use Rattle.def_io.specs.declared.TheConstants.{LINE_FEED}
use Rattle.def_text.specs.declared.letters.TheConstants.{SPACE}
use Rattle.def_mesh.specs.Faces.{Faces}
use Rattle.def_mesh.specs.Darts.{from_of, to_of}
use Rattle.def_mesh.specs.Vertices.{all_vertices, vertex_count, faces_at}
use Rattle.def_mesh.specs.Kinds.{kind_of}
use Rattle.def_mesh.specs.Components.{edge_count, euler, least_faces, seeds}
use Rattle.def_mesh.specs.declared.Kind.{Kind}
use Rattle.def_mesh.specs.declared.Kind.TheVariants.{Regular, Singular, Corner, Reflex}
use Rattle.def_cut.specs.Grids.{patch_at}
use Rattle.def_cut.specs.declared.graph.Rider.{Rider}
use Rattle.def_cut.specs.declared.graph.Stop.{Stop}
use Rattle.def_cut.specs.declared.graph.Stop.TheVariants as stop
use Rattle.def_layout.specs.Arcs.{path_at, long_at}
use Rattle.def_layout.specs.Gluings.{Way, south, east, north, west}
use Rattle.def_layout.specs.Layouts.{Layout, side_at, vertex_at}
use Rattle.def_layout.specs.declared.tmesh.SideArc.{SideArc}

-- Numbers, each after a space.
abbrev pub numbers_text : (numbers : List ℕ) → Bytes
numbers_text numbers = flat_map (λ n. SPACE ∷ decimal n) numbers

-- A line of a word and numbers.
abbrev pub numbers_line : (word : Bytes) (numbers : List ℕ) → Bytes
numbers_line word numbers = word ++ numbers_text numbers ++ LINE_FEED ∷ []

-- How many vertices, edges, faces and components there are, and Euler's number.
abbrev pub counts_line : (faces : Faces) → Bytes
counts_line faces =
    codes "vertices " ++ decimal (vertex_count faces)
    ++ codes " edges " ++ decimal (edge_count faces)
    ++ codes " faces " ++ decimal (length faces)
    ++ codes " euler " ++ signed_decimal (euler faces)
    ++ codes " components " ++ decimal (length (least_faces faces)) ++ LINE_FEED ∷ []

-- The line of a vertex of some kind with so many faces. Regular vertices have none.
abbrev pub kind_line : (kind : Kind) (vertex faces_there : ℕ) → Bytes
kind_line Regular vertex faces_there = []
kind_line Singular vertex faces_there = numbers_line (codes "singular") ((vertex + 1) ∷ faces_there ∷ [])
kind_line Corner vertex faces_there = numbers_line (codes "corner") ((vertex + 1) ∷ faces_there ∷ [])
kind_line Reflex vertex faces_there = numbers_line (codes "reflex") ((vertex + 1) ∷ faces_there ∷ [])

-- The line of a vertex of a mesh.
abbrev pub vertex_line : (faces : Faces) (vertex : ℕ) → Bytes
vertex_line faces vertex = kind_line (kind_of faces vertex) vertex (faces_at faces vertex)

-- The line of a seed.
abbrev pub seed_line : (vertex : ℕ) → Bytes
seed_line vertex = numbers_line (codes "seed") ((vertex + 1) ∷ [])

-- Why a rider stopped, and where, at the end of its line.
abbrev pub stop_line : (stop : Stop) → Bytes
stop_line (stop.Middle from to) = numbers_line (codes " middle") ((from + 1) ∷ (to + 1) ∷ [])
stop_line (stop.Boundary vertex) = numbers_line (codes " boundary") ((vertex + 1) ∷ [])
stop_line (stop.Singular vertex) = numbers_line (codes " singular") ((vertex + 1) ∷ [])
stop_line (stop.Trail vertex) = numbers_line (codes " trail") ((vertex + 1) ∷ [])
stop_line (stop.Tie vertex) = numbers_line (codes " tie") ((vertex + 1) ∷ [])

-- The line of a rider: the ends of its first dart, its rides, and its stop.
abbrev pub rider_line : (faces : Faces) (rider : Rider) → Bytes
rider_line faces rider = codes "rider"
    ++ numbers_text ((from_of faces rider.start + 1) ∷ (to_of faces rider.start + 1) ∷ rider.rides ∷ [])
    ++ stop_line rider.stop

-- The line of an arc: its number, the vertices at its ends, and its length.
abbrev pub arc_line : (layout : Layout) (arc : ℕ) → Bytes
arc_line layout arc = numbers_line (codes "arc")
    ((arc + 1) ∷ (vertex_at layout (path_at layout.arcs arc).first + 1)
    ∷ (vertex_at layout (path_at layout.arcs arc).last + 1) ∷ long_at layout.arcs arc ∷ [])

-- The word of a side.
abbrev pub side_word : (side : Way) → Bytes
side_word south = codes "south"
side_word east = codes "east"
side_word north = codes "north"
side_word west = codes "west"

-- The line of a side of a patch: its arcs, in order.
abbrev pub side_line : (layout : Layout) (patch : ℕ) (side : Way) → Bytes
side_line layout patch side =
    numbers_line (side_word side) (map (λ (used : SideArc). used.arc + 1) (side_at layout patch side))

-- The line of a patch: its number, its width and its height.
abbrev pub size_line : (layout : Layout) (patch : ℕ) → Bytes
size_line layout patch =
    numbers_line (codes "patch")
    ((patch + 1) ∷ (patch_at layout.patches patch).w ∷ (patch_at layout.patches patch).h ∷ [])

-- The lines of its sides.
abbrev pub side_lines : (layout : Layout) (patch : ℕ) → Bytes
side_lines layout patch = side_line layout patch south ++ side_line layout patch east
    ++ side_line layout patch north ++ side_line layout patch west

-- The lines of a patch and its sides.
abbrev pub patch_lines : (layout : Layout) (patch : ℕ) → Bytes
patch_lines layout patch = size_line layout patch ++ side_lines layout patch

-- The whole text of a mesh with these riders and this layout.
abbrev pub graph_text : (faces : Faces) (riders : List Rider) (layout : Layout) → Bytes
graph_text faces riders layout = codes "quadq graph 1\n"
    ++ counts_line faces
    ++ flat_map (vertex_line faces) (all_vertices faces)
    ++ flat_map seed_line (seeds faces)
    ++ flat_map (rider_line faces) riders
    ++ flat_map (arc_line layout) (range_with_len 0 (length layout.arcs))
    ++ flat_map (patch_lines layout) (range_with_len 0 (length layout.patches))
