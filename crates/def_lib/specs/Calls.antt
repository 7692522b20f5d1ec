-- Runs over bytes in memory.
use Rattle.std.specs.Prelude.{◌≡◌, ◌++◌, ℕ, Some, [], length, take, drop}
use Rattle.def_io.specs.Bytes.{Bytes}
use Rattle.def_io.specs.Lines.{lines_of}
use Rattle.def_io.specs.Moves.{Stream, StreamState, stream}
use Rattle.def_run.specs.Exits.{Ends}

-- A stream in memory tells its bytes, and has counted so many faults.
abbrev pub in_memory : (bytes : Bytes) (faults : ℕ) → StreamState
in_memory bytes faults = record { told = Some bytes; faults = faults }

-- The stream from one such state to another.
abbrev pub from_to : (before now : StreamState) → Stream StreamState
from_to before now = stream (λ state. state) before now

-- A run of these words, one a line, over the input wrote and said these bytes and has this status. No read failed; a
-- write fails where memory is wanting.
pub record HasRunOver (words input written said : Bytes) (status : ℕ) : Type 0 where
  pub left : Bytes
  pub out_faults : ℕ
  pub err_faults : ℕ
  pub ends : Ends (Some (lines_of words)) (from_to (in_memory input 0) (in_memory left 0))
      (from_to (in_memory [] 0) (in_memory written out_faults))
      (from_to (in_memory [] 0) (in_memory said err_faults)) status

-- A buffer with as much of a text at its front as it has room for; what lies behind that is as it was.
abbrev pub overlaid : (text before : Bytes) → Bytes
overlaid text before = take (length before) text ++ drop (length text) before

-- The text went to the front of the buffer, and its length was told, whether or not all of it fits.
pub record IsHandedOver (text before now : Bytes) (told : ℕ) : Type 0 where
  pub front : now ≡ overlaid text before
  pub whole : told ≡ length text
