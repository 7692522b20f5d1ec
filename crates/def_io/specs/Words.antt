-- The words of a command line, where it tells them, and the texts that they are read as.
use Rattle.std.specs.Prelude.{◌≡◌, ◌≤◌, ◌<◌, ◌⊎◌, ℕ, Option, Some, None, [], length, slice_index_or, ⊤}
use Rattle.std.specs.Str.{IsUtf8}
use Rattle.def_io.specs.Bytes.{Bytes, Lines}

-- Word `i` is this.
abbrev pub IsWordAt : (given : Option Lines) (i : ℕ) (word : Bytes) → Type 0
IsWordAt None i word = ⊤
IsWordAt (Some words) i word = (i < length words) × (slice_index_or words i [] ≡ word)

-- Word `i` is longer than this.
abbrev pub IsLonger : (given : Option Lines) (i most : ℕ) → Type 0
IsLonger None i most = ⊤
IsLonger (Some words) i most = (i < length words) × (most < length (slice_index_or words i []))

-- There are no more than `i` words.
abbrev pub AreAll : (given : Option Lines) (i : ℕ) → Type 0
AreAll None i = ⊤
AreAll (Some words) i = length words ≤ i

-- A word is read as it is; but one that is no UTF-8 text, or longer than the limit, as the empty word.
pub record IsReadAs (most : ℕ) (given word : Bytes) : Type 0 where
  pub text : IsUtf8 given → length given ≤ most → word ≡ given
  pub other : (¬ IsUtf8 given) ⊎ (most < length given) → word ≡ []

-- Word `i` is read as this.
abbrev pub IsReadAt : (most : ℕ) (given : Option Lines) (i : ℕ) (word : Bytes) → Type 0
IsReadAt most None i word = ⊤
IsReadAt most (Some words) i word = (i < length words) × IsReadAs most (slice_index_or words i []) word

-- These are all words, and each is read so.
pub record AreReadAs (most : ℕ) (given words : Lines) : Type 0 where
  pub many : length words ≡ length given
  pub each : (i : ℕ) → i < length given → IsReadAs most (slice_index_or given i []) (slice_index_or words i [])

-- The words that are told are read as these.
abbrev pub ReadsWords : (most : ℕ) (given : Option Lines) (words : Lines) → Type 0
ReadsWords most None words = ⊤
ReadsWords most (Some given) words = AreReadAs most given words
