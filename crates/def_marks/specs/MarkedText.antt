-- How marked edges are written: an `l` line for each marked arc, over the vertices of the new mesh.
use Rattle.std.specs.Prelude.{ℕ, ◌+◌, Bool, if◌then◌else◌, List, [], ◌∷◌, ◌++◌, length, map, decimal}
use Rattle.std.specs.List.{flat_map, range_with_len}
use Rattle.def_cut.specs.FullCut.{is_on}
use Rattle.def_io.specs.Bytes.{Bytes}
use Rattle.def_io.specs.declared.TheConstants.{LINE_FEED}
use Rattle.def_layout.specs.Arcs.{dart_at}
use Rattle.def_layout.specs.Gluings.{Gluing}
use Rattle.def_layout.specs.Lengths.{Lengths}
use Rattle.def_layout.specs.Layouts.{gluing_of, Layout}
use Rattle.def_text.specs.declared.letters.TheConstants.{SPACE}
use Rattle.def_written.specs.Numbers.{vertex_number}
use Rattle.def_written.specs.Points.{arc_point}
use Rattle.def_marks.specs.declared.fail.TheConstants.{LINE}

-- The vertices of the new mesh along an arc, in its direction.
abbrev pub arc_chain : (gluing : Gluing) (new : Lengths) (arc : ℕ) → List ℕ
arc_chain gluing new arc =
    map (λ k. vertex_number gluing new (arc_point gluing new arc k)) (range_with_len 0 (new arc + 1))

-- An `l` line: vertices count from 1.
abbrev pub chain_text : (chain : List ℕ) → Bytes
chain_text chain = LINE ∷ flat_map (λ vertex. SPACE ∷ decimal (vertex + 1)) chain ++ LINE_FEED ∷ []

-- Whether an arc is marked: its first edge tells.
abbrev pub is_marked_arc : (marks : List Bool) (layout : Layout) (arc : ℕ) → Bool
is_marked_arc marks layout arc = is_on marks (dart_at layout.arcs arc 0)

-- The line of an arc, where it is marked.
abbrev pub arc_text : (marks : List Bool) (layout : Layout) (new : Lengths) (arc : ℕ) → Bytes
arc_text marks layout new arc =
    if is_marked_arc marks layout arc then chain_text (arc_chain (gluing_of layout) new arc) else []

-- The lines of all marked arcs, in order of arcs.
abbrev pub marked_text : (marks : List Bool) (layout : Layout) (new : Lengths) → Bytes
marked_text marks layout new = flat_map (arc_text marks layout new) (range_with_len 0 (length layout.arcs))
