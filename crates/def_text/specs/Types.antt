-- Words, and the positions of vertices.
use Rattle.std.specs.Prelude.{List, ℤ}
use Rattle.def_io.specs.Bytes.{Bytes}

-- A run of bytes without a blank.
abbrev pub Word : Type 0
Word = Bytes

-- The words of a line, in order.
abbrev pub Words : Type 0
Words = List Word

-- Three coordinates, in millionths.
abbrev pub Position : Type 0
Position = List ℤ

-- The positions of vertices, by number.
abbrev pub Positions : Type 0
Positions = List Position
