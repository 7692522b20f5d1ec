-- The head line of a written text, and where the last one stands.
use Rattle.std.specs.Prelude.{◌≡◌, ℕ, ◌<◌, Bool, true, false, nat_eq, [], ◌++◌, codes, length, slice_index_or}
use Rattle.std.specs.List.{starts_with}
use Rattle.def_io.specs.Bytes.{Bytes, Lines}
use Rattle.def_flow.specs.declared.net.Settings.{Settings}
use Rattle.def_certtext.specs.Settings.{floor_text, scale_text, weight_text}

-- The head line of a remesh with these settings. The scale stands as it was given.
abbrev pub head_line : (settings : Settings) (auto : Bool) → Bytes
head_line settings auto =
    codes "#quadq 1 remesh scale " ++ scale_text settings
    ++ codes " floor " ++ floor_text settings.floor auto ++ codes " weight " ++ weight_text settings.weight

-- A line that begins as a head line does.
abbrev pub begins_head : (line : Bytes) → Bool
begins_head line = starts_with nat_eq line (codes "#quadq 1 remesh")

-- Line i is the last of these that begins so, by this test.
pub record IsLastLine (begins_so : Bytes → Bool) (lines : Lines) (i : ℕ) : Type 0 where
  pub there : i < length lines
  pub begins : begins_so (slice_index_or lines i []) ≡ true
  pub last : (k : ℕ) → i < k → k < length lines → begins_so (slice_index_or lines k []) ≡ false

-- No line begins so.
abbrev pub HasNoLine : (begins_so : Bytes → Bool) (lines : Lines) → Type 0
HasNoLine begins_so lines = (k : ℕ) → k < length lines → begins_so (slice_index_or lines k []) ≡ false

-- Line i is the last that begins as a head line does.
abbrev pub IsLastHead : (lines : Lines) (i : ℕ) → Type 0
IsLastHead lines i = IsLastLine begins_head lines i

-- None does.
abbrev pub HasNoHead : (lines : Lines) → Type 0
HasNoHead lines = HasNoLine begins_head lines
