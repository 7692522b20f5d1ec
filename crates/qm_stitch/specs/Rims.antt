-- The edges of a new mesh that may be doubled: those of the arcs, and those inside patches that have an end on a side.
use Rattle.std.specs.Prelude.{◌≡◌, ◌⊎◌, ℕ, ◌+◌, ◌-◌, ◌*◌, ◌/◌, ◌%◌, ◌^◌, ◌<◌, ◌≤◌, ◌==◌, ◌&&◌, ◌||◌, nat_lt}
use Rattle.std.specs.Prelude.{min, max, Bool, true, false, not, cond, List, [], ◌∷◌, ◌++◌, map, length, slice_index}
use Rattle.std.specs.List.{flat_map, range_with_len, Contains}
use Rattle.def_layout.specs.Gluings.{Way, south, west, Gluing}
use Rattle.def_layout.specs.Lengths.{Lengths, size}
use Rattle.qm_stitch.specs.declared.rim.Line.{Line}
use Rattle.def_written.specs.Edges.{Edge, on_arc, flat, steep, edge_start, edge_end}
use Rattle.def_written.specs.Numbers.{vertex_number}
use Rattle.def_written.specs.Points.{Point, point}

-- The edges of an arc.
abbrev pub segments : (lengths : Lengths) (arc : ℕ) → List Edge
segments lengths arc = map (on_arc arc) (range_with_len 0 (lengths arc))

-- An edge inside a patch lies in a row, or upright in a column: in line `line`, as the `at`-th from its beginning.
abbrev pub line_edge : (upright : Bool) (patch line at : ℕ) → Edge
line_edge false patch line at = flat patch at line
line_edge true patch line at = steep patch line at

-- The point of such a line, so many edges after its beginning.
abbrev pub line_point : (gluing : Gluing) (lengths : Lengths) (upright : Bool) (patch line at : ℕ) → Point
line_point gluing lengths false patch line at = point gluing lengths patch at line
line_point gluing lengths true patch line at = point gluing lengths patch line at

-- A side along which such lines run.
abbrev pub along_lines : (upright : Bool) → Way
along_lines false = south
along_lines true = west

-- The edges of a line that begin or end on a side: the first and the last one, which may be one.
abbrev pub line_ends : (upright : Bool) (patch long line : ℕ) → List Edge
line_ends upright patch long line =
    line_edge upright patch line 0 ∷ cond (nat_lt 1 long) (line_edge upright patch line (long - 1) ∷ []) []

-- Those of the lines inside a patch, from line 1 to this one.
abbrev pub lines_upto : (gluing : Gluing) (lengths : Lengths) (upright : Bool) (patch lines : ℕ) → List Edge
lines_upto gluing lengths upright patch lines =
    flat_map (line_ends upright patch (size gluing lengths patch (along_lines upright))) (range_with_len 1 lines)

-- Those of all lines inside a patch.
abbrev pub all_lines : (gluing : Gluing) (lengths : Lengths) (upright : Bool) (patch : ℕ) → List Edge
all_lines gluing lengths upright patch =
    lines_upto gluing lengths upright patch (size gluing lengths patch (along_lines (not upright)) - 1)

-- Those of a patch.
abbrev pub ends_in : (gluing : Gluing) (lengths : Lengths) (patch : ℕ) → List Edge
ends_in gluing lengths patch = all_lines gluing lengths false patch ++ all_lines gluing lengths true patch

-- Those of the first arcs, and of the first patches.
abbrev pub arcs_upto : (lengths : Lengths) (arcs : ℕ) → List Edge
arcs_upto lengths arcs = flat_map (segments lengths) (range_with_len 0 arcs)

abbrev pub patches_upto : (gluing : Gluing) (lengths : Lengths) (patches : ℕ) → List Edge
patches_upto gluing lengths patches = flat_map (ends_in gluing lengths) (range_with_len 0 patches)

-- All of them.
abbrev pub rim_edges : (gluing : Gluing) (lengths : Lengths) → List Edge
rim_edges gluing lengths = arcs_upto lengths gluing.arcs ++ patches_upto gluing lengths gluing.patches

-- A line inside a patch: between its first and its last line.
pub record IsLine (gluing : Gluing) (lengths : Lengths) (line : Line) : Type 0 where
  pub patch : line.patch < gluing.patches
  pub some : 0 < line.number
  pub inside : line.number < size gluing lengths line.patch (along_lines (not line.upright))

-- The key of a pair of vertices: the lesser one, then the greater one.
abbrev pub pair_key : (u v : ℕ) → ℕ
pair_key u v = min u v * 2 ^ 32 + max u v

-- The key of an edge.
abbrev pub key_of : (gluing : Gluing) (lengths : Lengths) (edge : Edge) → ℕ
key_of gluing lengths edge =
    pair_key (vertex_number gluing lengths (edge_start gluing lengths edge))
    (vertex_number gluing lengths (edge_end gluing lengths edge))

abbrev pub keys_of : (gluing : Gluing) (lengths : Lengths) (edges : List Edge) → List ℕ
keys_of gluing lengths edges = map (key_of gluing lengths) edges

-- Both vertices of a key are the same.
abbrev pub is_loop : (key : ℕ) → Bool
is_loop key = key / 2 ^ 32 == key % 2 ^ 32

-- A number stands at two places of a list.
abbrev pub StandsTwice : (keys : List ℕ) (key : ℕ) → Type 0
StandsTwice keys key =
    (i : ℕ) × (j : ℕ) × (i < j) × (j < length keys) × (slice_index keys i ≡ key) × (slice_index keys j ≡ key)

-- A key that tells of a doubled edge: that of an edge with equal ends, or of two edges.
abbrev pub IsRepeat : (keys : List ℕ) (key : ℕ) → Type 0
IsRepeat keys key = ((key / 2 ^ 32 ≡ key % 2 ^ 32) × Contains keys key) ⊎ StandsTwice keys key

-- It is the least.
pub record IsLeastRepeat (keys : List ℕ) (key : ℕ) : Type 0 where
  pub is : IsRepeat keys key
  pub least : (other : ℕ) → IsRepeat keys other → key ≤ other

-- The key at a place of an increasing list is that of a loop, or stands at the next place, too.
abbrev pub is_repeat_at : (keys : List ℕ) (place : ℕ) → Bool
is_repeat_at keys place =
    is_loop (slice_index keys place)
    || (nat_lt (place + 1) (length keys) && slice_index keys (place + 1) == slice_index keys place)
