-- The logical line that physical lines begin with, as a reader goes through them.
use Rattle.std.specs.Prelude.{ℕ, ◌+◌, if◌then◌else◌, [], ◌∷◌, ◌++◌, length}
use Rattle.std.specs.List.{before_first}
use Rattle.def_io.specs.Bytes.{Bytes, Lines}
use Rattle.def_text.specs.Logical.{continues, is_hash, with_space}

-- How many physical lines it has.
abbrev pub span : (lines : Lines) → ℕ
span [] = 0
span (line ∷ lines) = if continues line then 1 + span lines else 1

-- How many bytes these have.
abbrev pub size_ahead : (lines : Lines) → ℕ
size_ahead [] = 0
size_ahead (line ∷ lines) = if continues line then length line + size_ahead lines else length line

-- What is left to read of it.
abbrev pub text_ahead : (lines : Lines) → Bytes
text_ahead [] = []
text_ahead (line ∷ lines) = if continues line then with_space line ++ text_ahead lines else before_first is_hash line
