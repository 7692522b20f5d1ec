-- A text that goes to a sink through a buffer.
use Rattle.std.specs.Prelude.{◌≡◌, ℕ, ◌++◌}
use Rattle.def_io.specs.Bytes.{Bytes, Told}
use Rattle.def_io.specs.Faults.{Rose}
use Rattle.def_io.specs.Moves.{took}

-- What the sink tells that it took, its count of faults, and the bytes that wait in the buffer.
pub record Buffered : Type 0 where
  pub taken : Told
  pub faults : ℕ
  pub held : Bytes

-- The state with these.
abbrev pub buffered : (taken : Told) (faults : ℕ) (held : Bytes) → Buffered
buffered taken faults held = record { taken = taken; faults = faults; held = held }

-- A text came behind what waited. Of both the sink took a prefix, and the rest waits.
pub record PassedOn (before now : Buffered) (text : Bytes) : Type 0 where
  pub sent : Bytes
  pub whole : before.held ++ text ≡ sent ++ now.held
  pub moved : now.taken ≡ took before.taken sent
  pub calm : now.faults ≡ before.faults

-- A text came behind what waited. Of both the sink took a prefix, and failed.
pub record BrokeOff (before now : Buffered) (text : Bytes) : Type 0 where
  pub sent : Bytes
  pub lost : Bytes
  pub whole : before.held ++ text ≡ sent ++ lost
  pub moved : now.taken ≡ took before.taken sent
  pub fault : Rose before.faults now.faults
