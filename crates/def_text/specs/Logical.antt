-- Physical lines joined to logical lines.
use Rattle.std.specs.Prelude.{ℕ, ◌+◌, ◌-◌, ◌==◌, ◌&&◌, not, Bool, if◌then◌else◌, List, [], ◌∷◌, ◌++◌, length, take}
use Rattle.std.specs.Prelude.{slice_index, slice_index_or}
use Rattle.std.specs.List.{before_first, flat_map, list_any}
use Rattle.def_io.specs.Bytes.{Bytes, Lines}
use Rattle.def_text.specs.declared.letters.TheConstants.{BACKSLASH, HASH, SPACE}

-- A logical line: the number of its first physical line, from 1, the bytes of all its physical lines, and the text
-- that is left to read of them.
pub record Logical : Type 0 where
  pub number : ℕ
  pub size : ℕ
  pub text : Bytes

-- A comment begins here.
abbrev pub is_hash : (byte : ℕ) → Bool
is_hash byte = byte == HASH

-- A line without a comment that ends with a backslash: the next line is joined to it.
abbrev pub continues : (line : Bytes) → Bool
continues line = (slice_index line (length line - 1) == BACKSLASH) && not (list_any is_hash line)

-- A line that continues, with a space in place of the backslash.
abbrev pub with_space : (line : Bytes) → Bytes
with_space line = take (length line - 1) line ++ SPACE ∷ []

-- What is left to read of a physical line.
abbrev pub part_of : (line : Bytes) → Bytes
part_of line = if continues line then with_space line else before_first is_hash line

-- A line in front of the group behind it, where it continues, and else in a group of its own.
abbrev pub with_line : (line : Bytes) (groups : List Lines) → List Lines
with_line line [] = (line ∷ []) ∷ []
with_line line (group ∷ groups) =
    if continues line then (line ∷ group) ∷ groups else (line ∷ []) ∷ group ∷ groups

-- The physical lines of each logical line.
abbrev pub groups_of : (lines : Lines) → List Lines
groups_of [] = []
groups_of (line ∷ lines) = with_line line (groups_of lines)

-- The physical lines of the first logical line.
abbrev pub first_group : (lines : Lines) → Lines
first_group lines = slice_index_or (groups_of lines) 0 []

-- What is left to read of a group.
abbrev pub joined : (group : Lines) → Bytes
joined group = flat_map part_of group

-- A group's logical line, where its first physical line has this number.
abbrev pub logical : (number : ℕ) (group : Lines) → Logical
logical number group = record { number = number; size = length (flat_map (λ line. line) group); text = joined group }

-- The logical lines of groups, whose first physical line has this number.
abbrev pub numbered_groups : (number : ℕ) (groups : List Lines) → List Logical
numbered_groups number [] = []
numbered_groups number (group ∷ groups) = logical number group ∷ numbered_groups (number + length group) groups

-- All logical lines of physical lines, of which the first has this number.
abbrev pub logical_lines : (number : ℕ) (lines : Lines) → List Logical
logical_lines number lines = numbered_groups number (groups_of lines)
