-- What the `#w` lines of a text wish: lengths for the edges of its mesh, or the first line that is refused.
use Rattle.std.specs.Prelude.{ℕ, ◌+◌, ◌==◌, ◌&&◌, ◌||◌, nat_eq, nat_le, nat_lt, not, Bool, if◌then◌else◌, List, [], ◌∷◌}
use Rattle.std.specs.Prelude.{◌++◌}
use Rattle.std.specs.Prelude.{length, map, drop, slice_index, Option, Some, None, Result, Ok, Err, codes}
use Rattle.std.specs.List.{count_by, position_or_len, slice_split, starts_with}
use Rattle.def_io.specs.Bytes.{Bytes, Lines}
use Rattle.def_io.specs.Lines.{lines_of}
use Rattle.def_marks.specs.Chains.{is_edge, runs_between}
use Rattle.def_marks.specs.declared.fail.MarkFail.{MarkFail}
use Rattle.def_marks.specs.declared.fail.MarkFail.TheVariants.{Syntax, Range, NotEdge}
use Rattle.def_mesh.specs.Darts.{all_darts}
use Rattle.def_mesh.specs.Faces.{Faces}
use Rattle.def_metric.specs.declared.limits.TheConstants.{EDGE_PARTS}
use Rattle.def_text.specs.Digits.{is_number, number_written}
use Rattle.def_text.specs.FaceSet.{FaceSet}
use Rattle.def_text.specs.Logical.{logical_lines}
use Rattle.def_text.specs.Reading.{is_vertex_line}
use Rattle.def_text.specs.Types.{Word, Words}
use Rattle.def_text.specs.declared.letters.TheConstants.{SPACE, ZERO}
use Rattle.def_fit.specs.declared.fit.TheConstants.{MAX_WISH}

-- A physical line that wishes.
abbrev pub is_wish_line : (line : Bytes) → Bool
is_wish_line line = starts_with nat_eq line (codes "#w ")

-- Its words behind these bytes: exactly one blank divides two.
abbrev pub wish_words : (line : Bytes) → Words
wish_words line = slice_split (λ byte. byte == SPACE) (drop 3 line)

-- A whole number from 1 on without a leading zero.
abbrev pub is_counting : (word : Word) → Bool
is_counting word = is_number word && not (slice_index word 0 == ZERO)

-- A whole number from 0 on without a leading zero.
abbrev pub is_whole : (word : Word) → Bool
is_whole word = is_counting word || (is_number word && (length word == 1))

-- Two vertices, and the length that is wished for the edge between them, in parts of an edge.
pub record Wished : Type 0 where
  pub u : ℕ
  pub v : ℕ
  pub wish : ℕ

-- What the words of a line say, where they are two vertices and a wish.
abbrev pub wished_by : (words : Words) → Option Wished
wished_by (u ∷ v ∷ n ∷ []) =
    if is_counting u && is_counting v && is_whole n
    then Some (record { u = number_written u; v = number_written v; wish = number_written n }) else None
wished_by _ = None

-- The vertex of a `v` line. One that no face uses stands for a number above all vertices.
abbrev pub vertex_named : (names : List ℕ) (k : ℕ) → ℕ
vertex_named names k = position_or_len (λ name. name == k) names

-- The same wish between vertices of the mesh.
abbrev pub placed_wish : (names : List ℕ) (wished : Wished) → Wished
placed_wish names wished =
    record { u = vertex_named names wished.u; v = vertex_named names wished.v; wish = wished.wish }

-- A number of no `v` line, or a wish that is too great.
abbrev pub is_out_of_range : (all : ℕ) (wished : Wished) → Bool
is_out_of_range all wished = nat_lt all wished.u || nat_lt all wished.v || nat_lt MAX_WISH wished.wish

-- Why a line with this number that says so is refused, if it is, in a text with so many `v` lines.
abbrev pub said_fails : (soup : FaceSet) (all number : ℕ) (said : Option Wished) → List MarkFail
said_fails soup all number None = Syntax number ∷ []
said_fails soup all number (Some wished) =
    if is_out_of_range all wished then Range number ∷ []
    else (if is_edge soup.faces (vertex_named soup.names wished.u) (vertex_named soup.names wished.v) then []
    else NotEdge number ∷ [])

-- Why a line is refused, if it is.
abbrev pub wish_fails : (soup : FaceSet) (all number : ℕ) (line : Bytes) → List MarkFail
wish_fails soup all number line =
    if is_wish_line line then said_fails soup all number (wished_by (wish_words line)) else []

-- Why these lines are refused, in order, where the first has this number.
abbrev pub all_wish_fails : (soup : FaceSet) (all number : ℕ) (lines : Lines) → List MarkFail
all_wish_fails soup all number [] = []
all_wish_fails soup all number (line ∷ lines) =
    wish_fails soup all number line ++ all_wish_fails soup all (number + 1) lines

-- What a line wishes, between vertices of the mesh.
abbrev pub wishes_said : (names : List ℕ) (said : Option Wished) → List Wished
wishes_said names None = []
wishes_said names (Some wished) = placed_wish names wished ∷ []

-- What these lines wish, in order.
abbrev pub all_wished : (names : List ℕ) (lines : Lines) → List Wished
all_wished names [] = []
all_wished names (line ∷ lines) =
    (if is_wish_line line then wishes_said names (wished_by (wish_words line)) else []) ++ all_wished names lines

-- The wish for the edge of dart d: that of the last of these for this edge, or else this one.
abbrev pub wish_or : (faces : Faces) (d : ℕ) (before : ℕ) (all : List Wished) → ℕ
wish_or faces d before [] = before
wish_or faces d before (wished ∷ all) =
    wish_or faces d (if runs_between faces wished.u wished.v d then wished.wish else before) all

-- A wish for the edge of each dart: one whole edge, where no line wishes another.
abbrev pub edge_wishes : (faces : Faces) (all : List Wished) → List ℕ
edge_wishes faces all = map (λ d. wish_or faces d EDGE_PARTS all) (all_darts faces)

-- The first refusal, or else these wishes.
abbrev pub first_or_wishes : (fails : List MarkFail) (wishes : List ℕ) → Result (List ℕ) MarkFail
first_or_wishes [] wishes = Ok wishes
first_or_wishes (fail ∷ _) wishes = Err fail

-- The `v` lines of a text.
abbrev pub vertex_line_count : (lines : Lines) → ℕ
vertex_line_count lines = count_by is_vertex_line (logical_lines 1 lines)

-- The wishes that the lines of a text say for the edges of its mesh, or their first refusal.
abbrev pub wishes_of : (soup : FaceSet) (lines : Lines) → Result (List ℕ) MarkFail
wishes_of soup lines =
    first_or_wishes (all_wish_fails soup (vertex_line_count lines) 1 lines)
    (edge_wishes soup.faces (all_wished soup.names lines))

-- The same of the bytes of the text.
abbrev pub wishes_in : (bytes : Bytes) (soup : FaceSet) → Result (List ℕ) MarkFail
wishes_in bytes soup = wishes_of soup (lines_of bytes)
