-- What is kept of a text that is taken in pieces, and what it says with more lines or bytes behind it.
use Rattle.std.specs.Prelude.{ℕ, ◌+◌, if◌then◌else◌, Result, List, [], ◌∷◌, ◌++◌, length, map}
use Rattle.def_io.specs.Bytes.{Bytes, Lines}
use Rattle.def_io.specs.Lines.{lines_of}
use Rattle.def_mesh.specs.Faces.{Faces}
use Rattle.def_text.specs.FaceSet.{FaceSet}
use Rattle.def_text.specs.Logical.{Logical, logical_lines}
use Rattle.def_text.specs.Reading.{is_face_line, is_vertex_line, reading}
use Rattle.def_text.specs.Text.{soup_of}
use Rattle.def_text.specs.Types.{Positions}
use Rattle.def_text.specs.declared.reading.Reading.{Reading}
use Rattle.def_text.specs.declared.reading.Reading.TheVariants.{Face, Position}
use Rattle.def_text.specs.declared.refusal.ObjFail.{ObjFail}

-- What is kept: the positions and the faces so far, with the line of each face; the number of the physical line that
-- ends next; of the logical line that has not ended the number and what is left to read of its physical lines that
-- have ended; and the bytes behind the last line feed.
pub record KeptText : Type 0 where
  pub positions : Positions
  pub faces : Faces
  pub lines : List ℕ
  pub next : ℕ
  pub begun : ℕ
  pub joined : Bytes
  pub tail : Bytes

-- Faces and their lines, as these lines say them.
abbrev pub face_readings : (lines : List ℕ) (faces : Faces) → List Reading
face_readings [] faces = []
face_readings (line ∷ lines) [] = []
face_readings (line ∷ lines) (corners ∷ faces) = Face line corners ∷ face_readings lines faces

-- What the lines that were read say.
abbrev pub kept_readings : (kept : KeptText) → List Reading
kept_readings kept = map (λ position. Position position) kept.positions ++ face_readings kept.lines kept.faces

-- Logical lines of which the first has this number and this text in front.
abbrev pub with_front : (number : ℕ) (prefix : Bytes) (lines : List Logical) → List Logical
with_front number prefix [] = record { number = number; size = length prefix; text = prefix } ∷ []
with_front number prefix (line ∷ lines) =
    record { number = number; size = length prefix + line.size; text = prefix ++ line.text } ∷ lines

-- The same, where there is such a text.
abbrev pub with_joined : (number : ℕ) (joined : Bytes) (lines : List Logical) → List Logical
with_joined number [] lines = lines
with_joined number (byte ∷ bytes) lines = with_front number (byte ∷ bytes) lines

-- What logical lines say behind so many `v` and `f` lines.
abbrev pub readings_behind : (vertices faces : ℕ) (lines : List Logical) → List Reading
readings_behind vertices faces [] = []
readings_behind vertices faces (line ∷ lines) =
    reading vertices faces line ∷ readings_behind (vertices + (if is_vertex_line line then 1 else 0))
    (faces + (if is_face_line line then 1 else 0)) lines

-- The logical lines that are to be read, where these physical lines stand behind those that have ended.
abbrev pub logical_behind : (kept : KeptText) (lines : Lines) → List Logical
logical_behind kept lines = with_joined kept.begun kept.joined (logical_lines kept.next lines)

-- The soup with these physical lines behind, or the first refusal.
abbrev pub soup_with_lines : (kept : KeptText) (lines : Lines) → Result FaceSet ObjFail
soup_with_lines kept lines = soup_of (kept_readings kept
    ++ readings_behind (length kept.positions) (length kept.faces) (logical_behind kept lines))

-- The soup with these bytes behind, or the first refusal.
abbrev pub soup_with : (kept : KeptText) (more : Bytes) → Result FaceSet ObjFail
soup_with kept more = soup_with_lines kept (lines_of (kept.tail ++ more))
