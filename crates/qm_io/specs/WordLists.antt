-- Words that were read so far.
use Rattle.std.specs.Prelude.{◌≡◌, ◌≤◌, ◌<◌, ℕ, Option, Some, None, [], length, slice_index_or, ⊤}
use Rattle.def_io.specs.Bytes.{Lines}
use Rattle.def_io.specs.Words.{IsReadAs}

-- The first `i` words are read as these.
pub record AreReadSoFar (most : ℕ) (given : Lines) (i : ℕ) (words : Lines) : Type 0 where
  pub many : length words ≡ i
  pub within : i ≤ length given
  pub each : (k : ℕ) → k < i → IsReadAs most (slice_index_or given k []) (slice_index_or words k [])

-- So they are, where the words are told.
abbrev pub ReadsSome : (most : ℕ) (given : Option Lines) (i : ℕ) (words : Lines) → Type 0
ReadsSome most None i words = ⊤
ReadsSome most (Some given) i words = AreReadSoFar most given i words
