-- What a list of physical lines says: its soup, or its first refusal.
use Rattle.std.specs.Prelude.{ℕ, zero, suc, ◌-◌, nat_lt, if◌then◌else◌, Result, Ok, Err, List, [], ◌∷◌, ◌++◌, length}
use Rattle.std.specs.Prelude.{map, slice_index_or}
use Rattle.std.specs.List.{count_by, filter, flat_map, list_any}
use Rattle.def_io.specs.Bytes.{Bytes, Lines}
use Rattle.def_io.specs.Lines.{lines_of}
use Rattle.def_mesh.specs.Faces.{Faces}
use Rattle.def_mesh.specs.Vertices.{is_used}
use Rattle.def_text.specs.FaceSet.{FaceSet}
use Rattle.def_text.specs.Logical.{Logical, logical_lines}
use Rattle.def_text.specs.Reading.{is_face_line, is_vertex_line, reading}
use Rattle.def_text.specs.Types as types
use Rattle.def_text.specs.declared.refusal.ObjFail.{ObjFail}
use Rattle.def_text.specs.declared.refusal.ObjFail.TheVariants.{Range}
use Rattle.def_text.specs.declared.reading.Reading.{Reading}
use Rattle.def_text.specs.declared.reading.Reading.TheVariants as reads

-- What each line says after those before it.
abbrev pub readings : (before lines : List Logical) → List Reading
readings before [] = []
readings before (line ∷ lines) =
    reading (count_by is_vertex_line before) (count_by is_face_line before) line ∷ readings (before ++ line ∷ []) lines

-- The position in a reading.
abbrev pub position_in : (said : Reading) → types.Positions
position_in (reads.Position position) = position ∷ []
position_in reads.Passed = []
position_in (reads.Face _ _) = []
position_in (reads.Refused _) = []

-- The face in a reading.
abbrev pub face_in : (said : Reading) → Faces
face_in (reads.Face _ corners) = corners ∷ []
face_in reads.Passed = []
face_in (reads.Position _) = []
face_in (reads.Refused _) = []

-- The refusal in a reading.
abbrev pub refusal_in : (said : Reading) → List ObjFail
refusal_in (reads.Refused fail) = fail ∷ []
refusal_in reads.Passed = []
refusal_in (reads.Position _) = []
refusal_in (reads.Face _ _) = []

-- The refusal of a face that names a `v` line behind the last.
abbrev pub late_in : (vertices : ℕ) (said : Reading) → List ObjFail
late_in vertices (reads.Face line corners) =
    if list_any (λ corner. nat_lt vertices corner) corners then Range line ∷ [] else []
late_in vertices reads.Passed = []
late_in vertices (reads.Position _) = []
late_in vertices (reads.Refused _) = []

-- The positions of all `v` lines.
abbrev pub positions : (said : List Reading) → types.Positions
positions said = flat_map position_in said

-- The faces of all `f` lines, over the numbers of `v` lines.
abbrev pub faces : (said : List Reading) → Faces
faces said = flat_map face_in said

-- All refusals: those of the lines, and behind them the late ones.
abbrev pub refusals : (said : List Reading) → List ObjFail
refusals said = flat_map refusal_in said ++ flat_map (late_in (length (positions said))) said

-- The numbers from 1 to n.
abbrev pub numbers_to : (n : ℕ) → List ℕ
numbers_to zero = []
numbers_to (suc n) = numbers_to n ++ suc n ∷ []

-- The `v` lines up to the nth that some face names.
abbrev pub used_to : (faces : Faces) (n : ℕ) → List ℕ
used_to faces n = filter (is_used faces) (numbers_to n)

-- The position of the kth `v` line, from 1.
abbrev pub position_of : (positions : types.Positions) (k : ℕ) → types.Position
position_of positions k = slice_index_or positions (k - 1) []

-- The vertex that the kth `v` line becomes: as many used ones stand before it.
abbrev pub line_vertex : (faces : Faces) (k : ℕ) → ℕ
line_vertex faces k = length (used_to faces (k - 1))

-- The used `v` lines in order, and the faces over them.
abbrev pub face_set : (positions : types.Positions) (faces : Faces) → FaceSet
face_set positions faces = record {
  pos = map (position_of positions) (used_to faces (length positions));
  faces = map (λ corners. map (line_vertex faces) corners) faces;
  names = used_to faces (length positions);
}

-- The first refusal, or else this.
abbrev pub first_refusal : {X : Type 0} → (fails : List ObjFail) (x : X) → Result X ObjFail
first_refusal [] x = Ok x
first_refusal (fail ∷ _) x = Err fail

-- The soup that readings have, or their first refusal.
abbrev pub soup_of : (said : List Reading) → Result FaceSet ObjFail
soup_of said = first_refusal (refusals said) (face_set (positions said) (faces said))

-- The soup of physical lines, or their first refusal, where the first line has this number.
abbrev pub text_soup : (number : ℕ) (lines : Lines) → Result FaceSet ObjFail
text_soup number lines = soup_of (readings [] (logical_lines number lines))

-- The soup of a text's bytes, or its first refusal.
abbrev pub soup_in : (bytes : Bytes) → Result FaceSet ObjFail
soup_in bytes = text_soup 1 (lines_of bytes)
