-- Bytes, lines, and what a stream tells.
use Rattle.std.specs.Prelude.{ℕ, List, Option}

-- Bytes in order, as numbers below 256.
abbrev pub Bytes : Type 0
Bytes = List ℕ

-- Lines, without their ends unless it is said.
abbrev pub Lines : Type 0
Lines = List Bytes

-- What a stream tells of the bytes that it holds: all of them, or nothing.
abbrev pub Told : Type 0
Told = Option Bytes
