-- Tournament trees in a flat list, whose root is node 5.
use Rattle.std.specs.Prelude.{◌≡◌, ◌≢◌, ℕ, ◌+◌, ◌*◌, ◌/◌, ◌<◌, ◌≤◌, ◌^◌, List, length, slice_index}

-- A node has up to eight children; child `c` is one of node `(c + 34) / 8`.
abbrev pub parent : (child : ℕ) → ℕ
parent child = (child + 34) / 8

-- A key is the least of those of a node's children.
pub record IsLeastBelow (keys : List ℕ) (node key : ℕ) : Type 0 where
  pub low : (child : ℕ) → child < length keys → parent child ≡ node → key ≤ slice_index keys child
  pub from : (child : ℕ) × (child < length keys) × (parent child ≡ node) × (slice_index keys child ≡ key)

-- Each node before the first leaf, but one, has the least key of its children.
pub record IsTreeBut (first but : ℕ) (keys : List ℕ) : Type 0 where
  pub root : 5 ≤ first
  pub few : length keys ≤ 2 ^ 33
  pub some : first < length keys
  pub wide : length keys + 33 < 8 * first
  pub narrow : 8 * first < length keys + 42
  pub nodes : (k : ℕ) → 5 ≤ k → k < first → k ≢ but → IsLeastBelow keys k (slice_index keys k)

-- Each node before the first leaf has the least key of its children.
pub record IsTree (first : ℕ) (keys : List ℕ) : Type 0 where
  pub root : 5 ≤ first
  pub few : length keys ≤ 2 ^ 33
  pub some : first < length keys
  pub wide : length keys + 33 < 8 * first
  pub narrow : 8 * first < length keys + 42
  pub nodes : (k : ℕ) → 5 ≤ k → k < first → IsLeastBelow keys k (slice_index keys k)

-- The leaves have the keys that they had.
pub record HasSameLeaves (first : ℕ) (old new : List ℕ) : Type 0 where
  pub size : length new ≡ length old
  pub each : (k : ℕ) → first ≤ k → slice_index new k ≡ slice_index old k
