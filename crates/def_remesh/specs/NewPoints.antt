-- The points of the new mesh in the order of their numbers, and the old vertices.
use Rattle.std.specs.Prelude.{ℕ, ◌+◌, ◌-◌, ◌*◌, ◌/◌, ◌%◌, cond, nat_lt, List, slice_index}
use Rattle.def_math.specs.Runs.{run_at}
use Rattle.def_mesh.specs.Faces.{Faces}
use Rattle.def_mesh.specs.Darts.{from_of}
use Rattle.def_cut.specs.Grids.{cell_of, patch_at}
use Rattle.def_layout.specs.Arcs.{dart_at}
use Rattle.def_layout.specs.Gluings.{Gluing}
use Rattle.def_layout.specs.Lengths.{Lengths, wide}
use Rattle.def_layout.specs.Layouts.{Layout, vertex_at}
use Rattle.def_written.specs.Points.{Point, node, along, inside}
use Rattle.def_written.specs.Numbers.{before_arc, before_patch}

-- The lengths in a list, by arc.
abbrev pub lengths_in : (list : List ℕ) → Lengths
lengths_in list arc = slice_index list arc

-- Each length, so many times.
abbrev pub multiple_of : (by : ℕ) (lengths : Lengths) → Lengths
multiple_of by lengths arc = by * lengths arc

-- Inner point t of the arcs, counted from the first one.
abbrev pub along_arcs : (gluing : Gluing) (lengths : Lengths) (t : ℕ) → Point
along_arcs gluing lengths t =
    let a = run_at (before_arc lengths) gluing.arcs t in along a (t - before_arc lengths a + 1)

-- Inner point t of the patches, counted from the first one, row by row.
abbrev pub inside_patches : (gluing : Gluing) (lengths : Lengths) (t : ℕ) → Point
inside_patches gluing lengths t =
    let p = run_at (before_patch gluing lengths) gluing.patches t in
    let place = t - before_patch gluing lengths p in
    let row = wide gluing lengths p - 1 in
    inside p (place % row + 1) (place / row + 1)

-- The point with number v: nodes come first, then the inner points of arcs, then those of patches.
abbrev pub point_at : (gluing : Gluing) (lengths : Lengths) (v : ℕ) → Point
point_at gluing lengths v =
    let arcs_end = gluing.nodes + before_arc lengths gluing.arcs in
    cond (nat_lt v gluing.nodes) (node v)
    (cond (nat_lt v arcs_end) (along_arcs gluing lengths (v - gluing.nodes))
    (inside_patches gluing lengths (v - arcs_end)))

-- The vertex of the old mesh at a point of its layout with the old lengths.
abbrev pub old_vertex : (faces : Faces) (layout : Layout) (point : Point) → ℕ
old_vertex faces layout (node n) = vertex_at layout n
old_vertex faces layout (along a k) = from_of faces (dart_at layout.arcs a k)
old_vertex faces layout (inside p i j) = from_of faces (cell_of (patch_at layout.patches p) i j)
