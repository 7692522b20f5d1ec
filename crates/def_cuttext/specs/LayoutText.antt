-- The text of the layout of a chosen cut. Vertices have the numbers of their `v` lines, arcs and patches count from 1.
use Rattle.std.specs.Prelude.{ℕ, ◌+◌, ◌-◌, Bool, if◌then◌else◌, List, [], ◌∷◌, ◌++◌, length, map, codes, slice_index_or}
use Rattle.std.specs.Prelude.{Option, Some, None}
use Rattle.std.specs.List.{flat_map, range_with_len}
use Rattle.def_feature.specs.Marks.{is_break}
use Rattle.def_fit.specs.FitWords.{keep_word, patches_word}
use Rattle.def_io.specs.Bytes.{Bytes}
use Rattle.def_layout.specs.Arcs.{path_at}
use Rattle.def_layout.specs.Layouts.{Layout, vertex_at}
use Rattle.def_marks.specs.MarkedText.{is_marked_arc}
use Rattle.def_mesh.specs.Components.{seeds}
use Rattle.def_mesh.specs.Darts.{from_of}
use Rattle.def_mesh.specs.Faces.{Faces}
use Rattle.def_mesh.specs.Kinds.{kind_of}
use Rattle.def_mesh.specs.Vertices.{all_vertices, faces_at}
use Rattle.def_patches.specs.declared.Keep.{Keep}
use Rattle.def_patches.specs.declared.Patches.{Patches}
use Rattle.def_report.specs.GraphText.{counts_line, kind_line, numbers_line, patch_lines, seed_line}
use Rattle.def_text.specs.FaceSet.{FaceSet}

-- How many `v` lines stand before that of a vertex.
abbrev pub place_in_file : (names : List ℕ) (vertex : ℕ) → ℕ
place_in_file names vertex = slice_index_or names vertex 0 - 1

-- The line of a vertex that is not regular.
abbrev pub named_line : (soup : FaceSet) (vertex : ℕ) → Bytes
named_line soup vertex =
    kind_line (kind_of soup.faces vertex) (place_in_file soup.names vertex) (faces_at soup.faces vertex)

-- The line of a vertex at which marked lines break, where marks are kept.
abbrev pub break_line : (soup : FaceSet) (kept : Option (List Bool)) (vertex : ℕ) → Bytes
break_line soup None vertex = []
break_line soup (Some marks) vertex =
    if is_break soup.faces marks vertex
    then numbers_line (codes "break") ((place_in_file soup.names vertex + 1) ∷ []) else []

-- The vertices along an arc, in its direction.
abbrev pub vertices_along : (faces : Faces) (layout : Layout) (arc : ℕ) → List ℕ
vertices_along faces layout arc =
    map (from_of faces) (path_at layout.arcs arc).darts ++ vertex_at layout (path_at layout.arcs arc).last ∷ []

-- The word of an arc: whether its edges are marked.
abbrev pub arc_word : (kept : Option (List Bool)) (layout : Layout) (arc : ℕ) → Bytes
arc_word None layout arc = codes "arc"
arc_word (Some marks) layout arc = if is_marked_arc marks layout arc then codes "marked" else codes "arc"

-- The line of an arc: its number, its length and its vertices.
abbrev pub whole_arc_line : (soup : FaceSet) (kept : Option (List Bool)) (layout : Layout) (arc : ℕ) → Bytes
whole_arc_line soup kept layout arc = numbers_line (arc_word kept layout arc)
    ((arc + 1) ∷ length (path_at layout.arcs arc).darts
    ∷ map (λ v. place_in_file soup.names v + 1) (vertices_along soup.faces layout arc))

-- The first line.
abbrev pub layout_head : (keep : Keep) (patches : Patches) → Bytes
layout_head keep patches =
    codes "quadq layout 1 keep " ++ keep_word keep ++ codes " patches " ++ patches_word patches ++ codes "\n"

-- The whole text of a soup with its layout.
abbrev pub layout_text :
    (keep : Keep) (patches : Patches) (soup : FaceSet) (kept : Option (List Bool)) (layout : Layout) → Bytes
layout_text keep patches soup kept layout = layout_head keep patches
    ++ counts_line soup.faces
    ++ flat_map (named_line soup) (all_vertices soup.faces)
    ++ flat_map (λ v. seed_line (place_in_file soup.names v)) (seeds soup.faces)
    ++ flat_map (break_line soup kept) (all_vertices soup.faces)
    ++ flat_map (whole_arc_line soup kept layout) (range_with_len 0 (length layout.arcs))
    ++ flat_map (patch_lines layout) (range_with_len 0 (length layout.patches))
