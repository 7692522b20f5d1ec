-- The last line that begins with a prefix, among the first lines of a text.
use Rattle.std.specs.Prelude.{◌≡◌, ◌≤◌, ◌<◌, ℕ, nat_eq, Bool, true, false, Option, Some, None, [], length, take, drop}
use Rattle.std.specs.Prelude.{slice_index_or}
use Rattle.std.specs.List.{starts_with}
use Rattle.def_io.specs.Bytes.{Bytes}
use Rattle.def_io.specs.Lines.{lines_of, tail_of}
use Rattle.qm_certtext.specs.declared.last.HeadAt.{HeadAt}

-- Whether a line of a text begins so.
abbrev pub begins_at : (prefix bytes : Bytes) (line : ℕ) → Bool
begins_at prefix bytes line = starts_with nat_eq (slice_index_or (lines_of bytes) line []) prefix

-- This is the last among so many, and begins there.
pub record IsLastIn (prefix bytes : Bytes) (count : ℕ) (found : HeadAt) : Type 0 where
  pub there : found.line < count
  pub begins : begins_at prefix bytes found.line ≡ true
  pub last : (k : ℕ) → found.line < k → k < count → begins_at prefix bytes k ≡ false
  pub within : found.at ≤ length bytes
  pub old : lines_of (take found.at bytes) ≡ take found.line (lines_of bytes)
  pub written : drop found.at bytes ≡ tail_of found.line bytes

-- It is that which was found, or there is none.
abbrev pub IsFoundIn : (prefix bytes : Bytes) (count : ℕ) (found : Option HeadAt) → Type 0
IsFoundIn prefix bytes count None = (k : ℕ) → k < count → begins_at prefix bytes k ≡ false
IsFoundIn prefix bytes count (Some head) = IsLastIn prefix bytes count head
