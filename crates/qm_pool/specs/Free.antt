-- The identities of a pool that are not live.
use Rattle.std.specs.Prelude.{◌≡◌, ◌≢◌, ℕ, ◌+◌, ◌<◌, ◌^◌, List, length, count_by, is_some, slice_index, slice_index_or}
use Rattle.std.specs.Prelude.{Option, None}
use Rattle.qm_pool.specs.declared.pool.Node.{Node}

-- The first entries of a list are different places without a node, and there are as many of them as such places.
pub record AreFree (nodes : List (Option Node)) (free : List ℕ) (left : ℕ) : Type 0 where
  pub room : length free ≡ length nodes
  pub few : length nodes < 2 ^ 32
  pub all : left + count_by is_some nodes ≡ length nodes
  pub low : (k : ℕ) → k < left → slice_index free k < length nodes
  pub empty : (k : ℕ) → k < left → slice_index_or nodes (slice_index free k) None ≡ None
  pub apart : (j k : ℕ) → j < left → k < left → j ≢ k → slice_index free j ≢ slice_index free k
