-- The keys of edges and sets: by how much the dual's sum has risen in all when something happens there.
use Rattle.std.specs.Prelude.{◌≡◌, ℕ, ◌+◌, ◌-◌, ◌/◌, ◌<◌, ◌≤◌, ◌==◌, ◌^◌, ◌⊎◌, min, nat_lt, if◌then◌else◌}
use Rattle.std.specs.Prelude.{Bool, true, List, length, slice_index, ℤ, unsigned_abs}
use Rattle.def_matching.specs.Matching.{WeightedGraph, EdgeNumber, edge_at}
use Rattle.def_forest.specs.Forests.{Blossom, Forest}
use Rattle.def_forest.specs.Tables.{slack_of}
use Rattle.def_forest.specs.declared.kinds.Label.{Label}
use Rattle.def_forest.specs.declared.kinds.Label.TheVariants.{Outer, Inner, Outside}

-- A leaf of the tournament: that of an edge has its number, and those of the sets follow.
abbrev pub Leaf : Type 0
Leaf = ℕ

-- The key where nothing happens.
abbrev pub no_key : ℕ
no_key = 2 ^ 64 - 1

-- The key of what happens when the sum has risen by so much more. What does not fit 64 bits never happens.
abbrev pub key_after : (gap risen : ℕ) → ℕ
key_after gap risen = min (gap + risen) no_key

-- The key of an edge, by the labels of the outermost blossoms at its ends, and whether these are the same.
abbrev pub edge_key_by : (a b : Label) (same : Bool) (slack risen : ℕ) → ℕ
edge_key_by Outer Outer same slack risen = if same then no_key else key_after (slack / 2) risen
edge_key_by Outer Outside same slack risen = key_after slack risen
edge_key_by Outside Outer same slack risen = key_after slack risen
edge_key_by a b same slack risen = no_key

abbrev pub edge_key : (g : WeightedGraph) (f : Forest) (risen : ℕ) (e : EdgeNumber) → ℕ
edge_key g f risen e =
    edge_key_by (f.label (f.out (edge_at g e).u)) (f.label (f.out (edge_at g e).v))
    (f.out (edge_at g e).u == f.out (edge_at g e).v) (unsigned_abs (slack_of g f e)) risen

-- The key of a set: its weight is used up where it is inner.
abbrev pub set_key_by : (l : Label) (weight : ℤ) (risen : ℕ) → ℕ
set_key_by Inner weight risen = key_after (unsigned_abs weight) risen
set_key_by Outer weight risen = no_key
set_key_by Outside weight risen = no_key

abbrev pub set_key : (f : Forest) (risen : ℕ) (b : Blossom) → ℕ
set_key f risen b = set_key_by (f.label b) (f.weight b) risen

-- The set that a leaf stands for, and the leaf of a set.
abbrev pub set_of : (g : WeightedGraph) (k : Leaf) → Blossom
set_of g k = g.n + (k - length g.edges)

abbrev pub leaf_of : (g : WeightedGraph) (b : Blossom) → Leaf
leaf_of g b = length g.edges + (b - g.n)

-- The key that a leaf ought to have.
abbrev pub true_key : (g : WeightedGraph) (f : Forest) (risen : ℕ) (k : Leaf) → ℕ
true_key g f risen k = if nat_lt k (length g.edges) then edge_key g f risen k else set_key f risen (set_of g k)

-- No leaf has a greater key than it ought to have. It may have a lesser one, which is mended when it comes up.
abbrev pub AreLow : (g : WeightedGraph) (f : Forest) (risen : ℕ) (keys : List ℕ) → Type 0
AreLow g f risen keys = (k : Leaf) → k < length keys → slice_index keys k ≤ true_key g f risen k

-- Some leaves got the keys that they ought to have, and no others changed.
pub record IsMended (g : WeightedGraph) (f : Forest) (risen : ℕ) (old new : List ℕ) : Type 0 where
  pub size : length new ≡ length old
  pub each : (k : Leaf) → (slice_index new k ≡ true_key g f risen k) ⊎ (slice_index new k ≡ slice_index old k)

-- The edges that have an end in a set of vertices have the keys that they ought to have.
abbrev pub AreRightAt : (g : WeightedGraph) (f : Forest) (risen : ℕ) (keys : List ℕ) (set : ℕ → Bool) → Type 0
AreRightAt g f risen keys set = (e : EdgeNumber) → e < length g.edges
    → (set (edge_at g e).u ≡ true) ⊎ (set (edge_at g e).v ≡ true) → slice_index keys e ≡ true_key g f risen e

-- How many leaves have not the key that they ought to have.
abbrev pub is_stale : (g : WeightedGraph) (f : Forest) (risen : ℕ) (keys : List ℕ) (k : Leaf) → ℕ
is_stale g f risen keys k = if slice_index keys k == true_key g f risen k then 0 else 1
