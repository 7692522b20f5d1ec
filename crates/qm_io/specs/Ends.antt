-- Where the pieces of a text end.
use Rattle.std.specs.Prelude.{ℕ, ◌+◌, List, [], ◌∷◌, length}
use Rattle.def_io.specs.Bytes.{Lines}

-- The position after each piece, where the first begins at `start`.
abbrev pub ends_from : (start : ℕ) (pieces : Lines) → List ℕ
ends_from start [] = []
ends_from start (piece ∷ pieces) = (start + length piece) ∷ ends_from (start + length piece) pieces
