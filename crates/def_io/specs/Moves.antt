-- Bytes that leave a source and bytes that a sink takes, where the stream tells them.
use Rattle.std.specs.Prelude.{◌≡◌, ℕ, [], ◌++◌, ◌<◌, Some, None, take, length}
use Rattle.std.specs.Option.{option_map}
use Rattle.def_io.specs.Bytes.{Bytes, Told}

-- What a source held before it gave a piece, by what it holds now.
abbrev pub gave : (piece : Bytes) (now : Told) → Told
gave piece now = option_map (λ rest. piece ++ rest) now

-- What a sink has taken after a piece, by what it had taken before.
abbrev pub took : (before : Told) (piece : Bytes) → Told
took before piece = option_map (λ all. all ++ piece) before

-- Nothing is left, where the source tells what is left.
abbrev pub IsEmptied : (left : Told) → Type 0
IsEmptied None = Unit {0}
IsEmptied (Some rest) = rest ≡ []

-- The sink took a prefix of the piece.
pub record TookPrefix (before now : Told) (piece : Bytes) : Type 0 where
  pub count : ℕ
  pub is : now ≡ took before (take count piece)

-- The source gave more bytes than the limit.
pub record GaveMore (limit : ℕ) (before now : Told) : Type 0 where
  pub piece : Bytes
  pub many : limit < length piece
  pub moved : before ≡ gave piece now

-- What contracts see of a stream: its bytes, where it tells them, and how many of its calls failed.
pub record StreamState : Type 0 where
  pub told : Told
  pub faults : ℕ

-- A stream before and after a call: what it tells of its bytes, and its count of faults.
pub record Change : Type 0 where
  pub told : Told
  pub told_now : Told
  pub faults : ℕ
  pub faults_now : ℕ

-- The change between these.
abbrev pub change : (before now : StreamState) → Change
change before now =
    record { told = before.told; told_now = now.told; faults = before.faults; faults_now = now.faults }

-- A stream of this type before and after a call: its values, and the change of what contracts see of it.
pub record Stream (V : Type 0) : Type 0 where
  pub before : V
  pub now : V
  pub change : Change

-- The stream between these values.
abbrev pub stream : {V : Type 0} (state : V → StreamState) (before now : V) → Stream V
stream state before now = record { before = before; now = now; change = change (state before) (state now) }

-- It is as it was.
abbrev pub IsStill : {V : Type 0} (one : Stream V) → Type 0
IsStill one = one.now ≡ one.before
