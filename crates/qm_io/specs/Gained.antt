-- What one read adds to the bytes that are kept.
use Rattle.std.specs.Prelude.{◌≡◌, ℕ, ◌++◌, length}
use Rattle.def_io.specs.Bytes.{Bytes, Told}
use Rattle.def_io.specs.Moves.{gave}

-- What a source gave in one read stands behind what was there.
pub record Gained (old new : Bytes) (before now : Told) (count : ℕ) : Type 0 where
  pub piece : Bytes
  pub grown : new ≡ old ++ piece
  pub many : length piece ≡ count
  pub moved : before ≡ gave piece now
