-- What one logical line says.
use Rattle.std.specs.Prelude.{ℕ, ◌==◌, ◌&&◌, ◌||◌, nat_le, nat_lt, not, Bool, false, if◌then◌else◌, [], ◌∷◌, length}
use Rattle.std.specs.Prelude.{map, take}
use Rattle.std.specs.List.{list_all, list_any}
use Rattle.def_text.specs.Corner.{is_corner_word, is_out, resolved, used_index}
use Rattle.def_text.specs.Decimal.{is_decimal, is_far, rounded}
use Rattle.def_text.specs.Logical.{Logical}
use Rattle.def_text.specs.Types.{Word, Words}
use Rattle.def_text.specs.Words.{words}
use Rattle.def_text.specs.declared.letters.TheConstants.{FACE, VERTEX}
use Rattle.def_text.specs.declared.limits.TheConstants.{MAX_F_LINES, MAX_LINE, MAX_V_LINES}
use Rattle.def_text.specs.declared.reading.Reading.{Reading}
use Rattle.def_text.specs.declared.reading.Reading.TheVariants as reads
use Rattle.def_text.specs.declared.refusal.ObjFail.TheVariants.{Syntax, NotQuad, Range, Limit}
use Rattle.def_text.specs.declared.refusal.Which.TheVariants as limits

-- A word of this one letter.
abbrev pub is_letter : (letter : ℕ) (word : Word) → Bool
is_letter letter (byte ∷ []) = byte == letter
is_letter letter _ = false

-- The first word is this letter.
abbrev pub begins_with : (letter : ℕ) (words : Words) → Bool
begins_with letter [] = false
begins_with letter (word ∷ _) = is_letter letter word

-- A `v` line.
abbrev pub is_vertex_line : (line : Logical) → Bool
is_vertex_line line = begins_with VERTEX (words line.text)

-- An `f` line.
abbrev pub is_face_line : (line : Logical) → Bool
is_face_line line = begins_with FACE (words line.text)

-- A position may have a fourth number, and three more numbers behind either.
abbrev pub is_position_count : (n : ℕ) → Bool
is_position_count n = ((n == 3) || (n == 4)) || ((n == 6) || (n == 7))

-- What a `v` line with these words behind its letter says, after so many `v` lines.
abbrev pub vertex_reading : (line vertices : ℕ) (words : Words) → Reading
vertex_reading line vertices words =
    if nat_le MAX_V_LINES vertices then reads.Refused (Limit limits.Vertices line)
    else (if not (is_position_count (length words) && list_all is_decimal words) then reads.Refused (Syntax line)
    else (if list_any (λ word. is_far (rounded word)) (take 3 words) then reads.Refused (Range line)
    else reads.Position (map rounded (take 3 words))))

-- What an `f` line with these words behind its letter says, after so many `v` and `f` lines.
abbrev pub face_reading : (line vertices faces : ℕ) (words : Words) → Reading
face_reading line vertices faces words =
    if nat_le MAX_F_LINES faces then reads.Refused (Limit limits.Faces line)
    else (if not (list_all is_corner_word words) then reads.Refused (Syntax line)
    else (if not (length words == 4) then reads.Refused (NotQuad line (length words))
    else (if list_any (λ word. is_out vertices (used_index word)) words then reads.Refused (Range line)
    else reads.Face line (map (λ word. resolved vertices (used_index word)) words))))

-- What a line with these words says, after so many `v` and `f` lines.
abbrev pub words_reading : (line vertices faces : ℕ) (words : Words) → Reading
words_reading line vertices faces [] = reads.Passed
words_reading line vertices faces (word ∷ rest) =
    if is_letter VERTEX word then vertex_reading line vertices rest
    else (if is_letter FACE word then face_reading line vertices faces rest else reads.Passed)

-- What a logical line says, after so many `v` and `f` lines.
abbrev pub reading : (vertices faces : ℕ) (line : Logical) → Reading
reading vertices faces line =
    if nat_lt MAX_LINE line.size then reads.Refused (Limit limits.Line line.number)
    else words_reading line.number vertices faces (words line.text)
