-- Words one after another, and what a reader keeps of the lines.
use Rattle.std.specs.Prelude.{◌≡◌, ◌<◌, ◌≤◌, ◌||◌, ℕ, Bool, true, nat_lt, IsTrue, if◌then◌else◌}
use Rattle.std.specs.Prelude.{List, [], ◌∷◌, ◌++◌, length, take, drop}
use Rattle.std.specs.Prelude.{slice_index_or}
use Rattle.std.specs.List.{list_all}
use Rattle.def_io.specs.Bytes.{Bytes, Lines}
use Rattle.def_text.specs.Logical.{Logical, is_hash}
use Rattle.qm_obj.specs.Ahead.{text_ahead, size_ahead}
use Rattle.def_text.specs.Reading.{reading}
use Rattle.def_text.specs.Text.{face_in, position_in, refusal_in}
use Rattle.def_text.specs.Words.{is_blank}
use Rattle.def_text.specs.declared.limits.TheConstants.{MAX_F_LINES, MAX_V_LINES}
use Rattle.def_text.specs.declared.reading.Reading.{Reading}
use Rattle.def_text.specs.declared.reading.Reading.TheVariants.{Passed, Position, Face, Refused}
use Rattle.qm_obj.specs.Indices.{with_clamped}
use Rattle.def_text.specs.Types.{Positions, Words}
use Rattle.def_mesh.specs.Faces.{Faces}

-- A word in front of others, where it is one.
abbrev pub with_word : (word : Bytes) (rest : Words) → Words
with_word [] rest = []
with_word (byte ∷ bytes) rest = (byte ∷ bytes) ∷ rest

-- A line up to its comment, byte by byte.
abbrev pub uncommented : (line : Bytes) → Bytes
uncommented [] = []
uncommented (byte ∷ bytes) = if is_hash byte then [] else byte ∷ uncommented bytes

-- A logical line of this number and this size, with these bytes up to their comment.
abbrev pub line_as : (number size : ℕ) (bytes : Bytes) → Logical
line_as number size bytes = record { number = number; size = size; text = uncommented bytes }

-- A byte at which a word ends.
abbrev pub is_end : (byte : ℕ) → Bool
is_end byte = is_blank byte || is_hash byte

-- The line of a face.
abbrev pub line_in : (said : Reading) → List ℕ
line_in (Face line _) = line ∷ []
line_in Passed = []
line_in (Position _) = []
line_in (Refused _) = []

-- The logical line that begins these physical lines.
abbrev pub first_logical : (number : ℕ) (lines : Lines) → Logical
first_logical number lines = record { number = number; size = size_ahead lines; text = text_ahead lines }

-- What the next line says, behind as many `v` lines and `f` lines as there are positions and faces.
abbrev pub next_said : (positions : Positions) (faces : Faces) (line : Logical) → Reading
next_said positions faces line = with_clamped (reading (length positions) (length faces) line)

-- What a reader keeps stays within the limits and in step, and the corners are numbers from 1.
pub record Fits (positions : Positions) (faces : Faces) (lines : List ℕ) : Type 0 where
  pub few_vertices : length positions ≤ MAX_V_LINES
  pub few_faces : length faces ≤ MAX_F_LINES
  pub sizes : length lines ≡ length faces
  pub positive : IsTrue (list_all (list_all (λ corner. nat_lt 0 corner)) faces)

-- What a reader keeps grew by what a line says, which is no refusal.
pub record Took (positions positions' : Positions) (faces faces' : Faces) (lines lines' : List ℕ)
    (said : Reading) : Type 0 where
  pub accepted : refusal_in said ≡ []
  pub position : positions' ≡ positions ++ position_in said
  pub face : faces' ≡ faces ++ face_in said
  pub line : lines' ≡ lines ++ line_in said

-- The slot at k has what the word at k says, as far as so many words and the slots go.
pub record IsFilled {X : Type 0} (says : List ℕ → X) (words : Words) (count size : ℕ) (slots : List X) : Type 0 where
  pub many : length slots ≡ size
  pub each : (k : ℕ) (d : X) → k < count → k < size → slice_index_or slots k d ≡ says (slice_index_or words k [])

-- So many words of a line are read: each passes a test, the slots have what the words say, and the rest is left.
pub record IsReadTo {X : Type 0} (test : List ℕ → Bool) (says : List ℕ → X) (words : Words) (size count : ℕ)
    (rest : Words) (slots : List X) : Type 0 where
  pub within : count ≤ length words
  pub rest_is : rest ≡ drop count words
  pub passed : list_all test (take count words) ≡ true
  pub filled : IsFilled says words count size slots
