-- What the `l` lines of a text say: the edges of its mesh that they mark, or the first line that is refused.
use Rattle.std.specs.Prelude.{ℕ, ◌+◌, ◌==◌, ◌&&◌, ◌||◌, nat_lt, not, Bool, true, false, if◌then◌else◌, cond, List}
use Rattle.std.specs.Prelude.{[], ◌∷◌, length, map, drop, Result, Ok, Err}
use Rattle.std.specs.List.{after_first, count_by, flat_map, list_all, list_any, position_or_len}
use Rattle.def_io.specs.Bytes.{Bytes}
use Rattle.def_io.specs.Lines.{lines_of}
use Rattle.def_text.specs.Corner.{index_of, is_optional, is_slash, used_index}
use Rattle.def_text.specs.Digits.{is_signed}
use Rattle.def_text.specs.FaceSet.{FaceSet}
use Rattle.def_text.specs.Logical.{Logical, logical_lines}
use Rattle.def_text.specs.Reading.{begins_with, is_vertex_line}
use Rattle.def_text.specs.Types.{Word, Words}
use Rattle.def_text.specs.Words.{words}
use Rattle.def_text.specs.declared.index.Index.{Index}
use Rattle.def_text.specs.declared.index.Index.TheVariants.{Vertex, Out, Malformed}
use Rattle.def_marks.specs.Chains.{is_chain, marks_along}
use Rattle.def_marks.specs.declared.fail.TheConstants.{LINE}
use Rattle.def_marks.specs.declared.fail.MarkFail.{MarkFail}
use Rattle.def_marks.specs.declared.fail.MarkFail.TheVariants.{Syntax, Range, NotEdge}

-- A corner of an `l` line: an index, and behind a slash perhaps another.
abbrev pub is_line_corner : (word : Word) → Bool
is_line_corner word = is_signed (used_index word) && is_optional (after_first is_slash word)

-- A logical line, and how many `v` lines there are in its text and before it.
pub record Placed : Type 0 where
  pub all : ℕ
  pub before : ℕ
  pub line : Logical

-- The index that a corner uses.
abbrev pub corner_index : (all before : ℕ) (word : Word) → Index
corner_index all before word = index_of all before (used_index word)

-- An index that names no `v` line.
abbrev pub is_nothing : (index : Index) → Bool
is_nothing (Vertex k) = false
is_nothing Out = true
is_nothing Malformed = true

-- The vertex that an index names. A `v` line that no face uses stands for a number above all vertices.
abbrev pub named_vertex : (names : List ℕ) (index : Index) → ℕ
named_vertex names (Vertex k) = position_or_len (λ name. name == k) names
named_vertex names Out = length names
named_vertex names Malformed = length names

-- The vertices that corners name.
abbrev pub named_chain : (names : List ℕ) (all before : ℕ) (corners : Words) → List ℕ
named_chain names all before corners = map (λ word. named_vertex names (corner_index all before word)) corners

-- An `l` line.
abbrev pub is_mark_line : (line : Logical) → Bool
is_mark_line line = begins_with LINE (words line.text)

-- The words behind the first.
abbrev pub corners_of : (line : Logical) → Words
corners_of line = drop 1 (words line.text)

-- Fewer than two corners, or a word that is none.
abbrev pub is_malformed : (corners : Words) → Bool
is_malformed corners = nat_lt (length corners) 2 || not (list_all is_line_corner corners)

-- Why these corners of an `l` line are refused, if they are.
abbrev pub corner_fails : (soup : FaceSet) (all before number : ℕ) (corners : Words) → List MarkFail
corner_fails soup all before number corners =
    if is_malformed corners then Syntax number ∷ []
    else (if list_any (λ word. is_nothing (corner_index all before word)) corners then Range number ∷ []
    else (if not (is_chain soup.faces (named_chain soup.names all before corners)) then NotEdge number ∷ [] else []))

-- Why a line is refused, if it is.
abbrev pub line_fails : (soup : FaceSet) (placed : Placed) → List MarkFail
line_fails soup placed =
    if is_mark_line placed.line
    then corner_fails soup placed.all placed.before placed.line.number (corners_of placed.line) else []

-- The vertices along which a line marks edges.
abbrev pub line_chain : (soup : FaceSet) (placed : Placed) → List ℕ
line_chain soup placed =
    if is_mark_line placed.line
    then named_chain soup.names placed.all placed.before (corners_of placed.line) else []

-- The `v` lines of one line.
abbrev pub vertex_lines_in : (line : Logical) → ℕ
vertex_lines_in line = cond (is_vertex_line line) 1 0

-- Lines behind so many `v` lines, of so many in all.
abbrev pub placed_lines : (all before : ℕ) (lines : List Logical) → List Placed
placed_lines all before [] = []
placed_lines all before (line ∷ lines) =
    record { all = all; before = before; line = line } ∷ placed_lines all (before + vertex_lines_in line) lines

-- All lines of a text.
abbrev pub text_lines : (lines : List Logical) → List Placed
text_lines lines = placed_lines (count_by is_vertex_line lines) 0 lines

-- The first refusal, or else these marks.
abbrev pub first_fail : (fails : List MarkFail) (marks : List Bool) → Result (List Bool) MarkFail
first_fail [] marks = Ok marks
first_fail (fail ∷ _) marks = Err fail

-- The marks that lines say for the mesh of a soup, or their first refusal.
abbrev pub marks_of : (soup : FaceSet) (placed : List Placed) → Result (List Bool) MarkFail
marks_of soup placed =
    first_fail (flat_map (line_fails soup) placed) (marks_along soup.faces (map (line_chain soup) placed))

-- The marks that a text says for the mesh of its soup, or the first refusal of its `l` lines.
abbrev pub marks_in : (bytes : Bytes) (soup : FaceSet) → Result (List Bool) MarkFail
marks_in bytes soup = marks_of soup (text_lines (logical_lines 1 (lines_of bytes)))
