-- What contracts see of the streams in memory.
use Rattle.std.specs.Prelude.{◌+◌, ◌-◌, ◌^◌, min, ℕ, List}
use Rattle.def_io.specs.Bytes.{Bytes}

-- A source: the bytes that are left, the most that one call gives, the calls that fail, and its counts.
pub record Feed : Type 0 where
  pub left : Bytes
  pub step : ℕ
  pub fail_at : List ℕ
  pub calls : ℕ
  pub faults : ℕ

-- A sink: the bytes that it took, the most that one call takes, the calls that fail, and its counts.
pub record Store : Type 0 where
  pub taken : Bytes
  pub step : ℕ
  pub fail_at : List ℕ
  pub calls : ℕ
  pub faults : ℕ

-- One more, up to the last value of a `u64`.
abbrev pub one_more : (n : ℕ) → ℕ
one_more n = min (n + 1) (2 ^ 64 - 1)
