-- The physical lines of a text.
use Rattle.std.specs.Prelude.{ℕ, ◌-◌, ◌==◌, if◌then◌else◌, [], ◌∷◌, length, take, drop, map, slice_index}
use Rattle.std.specs.List.{flat_map}
use Rattle.def_io.specs.Bytes.{Bytes, Lines}
use Rattle.def_io.specs.declared.TheConstants.{LINE_FEED, CARRIAGE_RETURN}

-- A byte in front of the first of some pieces.
abbrev pub byte_in_front : (byte : ℕ) (pieces : Lines) → Lines
byte_in_front byte [] = (byte ∷ []) ∷ []
byte_in_front byte (piece ∷ pieces) = (byte ∷ piece) ∷ pieces

-- The text cut after each line feed: each piece has its own, and the last may lack one.
abbrev pub pieces : (bytes : Bytes) → Lines
pieces [] = []
pieces (byte ∷ bytes) = if byte == LINE_FEED then (byte ∷ []) ∷ pieces bytes else byte_in_front byte (pieces bytes)

-- The piece without this byte at its end, where it ends so.
abbrev pub without_last : (byte : ℕ) (piece : Bytes) → Bytes
without_last byte piece =
    if slice_index piece (length piece - 1) == byte then take (length piece - 1) piece else piece

-- A piece without its line feed, and then without a carriage return before it.
abbrev pub line_of : (piece : Bytes) → Bytes
line_of piece = without_last CARRIAGE_RETURN (without_last LINE_FEED piece)

-- The physical lines of a text, without their ends.
abbrev pub lines_of : (bytes : Bytes) → Lines
lines_of bytes = map line_of (pieces bytes)

-- All bytes from the first of line `i` on.
abbrev pub tail_of : (i : ℕ) (bytes : Bytes) → Bytes
tail_of i bytes = flat_map (λ piece. piece) (drop i (pieces bytes))
