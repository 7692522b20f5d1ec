-- The dual of a forest, written down.
use Rattle.std.specs.Prelude.{◌≡◌, ◌≢◌, ◌<◌, ◌≤◌, ℕ, length}
use Rattle.def_matching.specs.Matching.{Vertex}
use Rattle.def_matching.specs.Dual.{DualLists, SetNumber, dual_sum, holds, y_at, z_at}
use Rattle.def_forest.specs.Forests.{Blossom, Forest, dual_sum_of}

-- Set k of a dual is a set of a forest, with its weight and its vertices.
abbrev pub IsSetOf : (n : ℕ) (f : Forest) (d : DualLists) (k : SetNumber) → Type 0
IsSetOf n f d k = (b : Blossom) × (n ≤ b) × (f.nest.parts b ≢ 0) × (z_at d k ≡ f.weight b)
    × ((v : Vertex) → v < n → holds n d k v ≡ f.holds b v)

-- A dual is that of a forest: the vertices and the sets have the weights that they have there, and all are there.
pub record IsDualOf (n : ℕ) (f : Forest) (d : DualLists) : Type 0 where
  pub vertices : length d.y ≡ n
  pub y : (v : Vertex) → v < n → y_at d v ≡ f.weight v
  pub sets : (k : SetNumber) → k < length d.z → IsSetOf n f d k
  pub sum : dual_sum d ≡ dual_sum_of f
