-- Indices, and the corners of faces.
use Rattle.std.specs.Prelude.{ℕ, ◌+◌, ◌-◌, ◌==◌, ◌&&◌, ◌||◌, nat_le, nat_lt, not, Bool, true, false, if◌then◌else◌, []}
use Rattle.std.specs.Prelude.{◌∷◌, length}
use Rattle.std.specs.List.{before_first, list_all, slice_split}
use Rattle.def_text.specs.Digits.{is_negative, is_signed, number_written, unsigned}
use Rattle.def_text.specs.Types.{Word, Words}
use Rattle.def_text.specs.declared.letters.TheConstants.{SLASH}
use Rattle.def_text.specs.declared.index.Index.{Index}
use Rattle.def_text.specs.declared.index.Index.TheVariants.{Vertex, Out, Malformed}

-- An index that is 0, or that counts back from its line and passes the first of so many `v` lines before it.
abbrev pub is_out : (before : ℕ) (word : Word) → Bool
is_out before word =
    (number_written (unsigned word) == 0) || (is_negative word && nat_lt before (number_written (unsigned word)))

-- The number of the `v` line, from 1, that an index names after so many `v` lines.
abbrev pub resolved : (before : ℕ) (word : Word) → ℕ
resolved before word =
    if is_negative word then before + 1 - number_written (unsigned word) else number_written (unsigned word)

-- What a word says as an index, where there are so many `v` lines in all, and so many before its line.
abbrev pub index_of : (all before : ℕ) (word : Word) → Index
index_of all before word =
    if not (is_signed word) then Malformed
    else (if is_out before word || nat_lt all (resolved before word) then Out else Vertex (resolved before word))

-- The slash between the indices of a corner.
abbrev pub is_slash : (byte : ℕ) → Bool
is_slash byte = byte == SLASH

-- Nothing, or an index.
abbrev pub is_optional : (word : Word) → Bool
is_optional [] = true
is_optional (byte ∷ bytes) = is_signed (byte ∷ bytes)

-- One index and at most two optional ones.
abbrev pub are_indices : (words : Words) → Bool
are_indices [] = false
are_indices (first ∷ rest) = is_signed first && (nat_le (length rest) 2 && list_all is_optional rest)

-- A corner: up to three indices between slashes, of which the first must stand.
abbrev pub is_corner_word : (word : Word) → Bool
is_corner_word word = are_indices (slice_split is_slash word)

-- The index of a corner that is used: the first.
abbrev pub used_index : (word : Word) → Word
used_index word = before_first is_slash word
