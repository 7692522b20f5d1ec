-- The edges at each vertex, as chains of darts.
use Rattle.std.specs.Prelude.{◌≡◌, ℕ, zero, suc, ◌+◌, ◌*◌, ◌<◌, ◌≤◌, ◌==◌, ◌||◌, Bool, true, false, List, length}
use Rattle.std.specs.Prelude.{slice_index, slice_set}
use Rattle.def_matching.specs.Matching.{WeightedGraph, Vertex}
use Rattle.def_forest.specs.Darts.{Dart, darts_of}
use Rattle.qm_match.specs.declared.fans.Fans.{Fans}

-- An entry of a chain: one more than a dart's number, or 0 where the chain ends.
abbrev pub Entry : Type 0
Entry = ℕ

-- Going along a chain one comes past a dart within so many steps.
abbrev pub passes : (next : List Entry) (most : ℕ) (entry : Entry) (d : Dart) → Bool
passes next zero entry d = false
passes next (suc k) zero d = false
passes next (suc k) (suc here) d = (here == d) || passes next k (slice_index next here) d

-- A dart is on the chain that begins at an entry.
abbrev pub IsOn : (next : List Entry) (entry : Entry) (d : Dart) → Type 0
IsOn next entry d = (most : ℕ) × (passes next most entry d ≡ true)

-- The darts below a bound are on the chains of the vertices where they begin. Chains go down.
pub record AreFansOf (g : WeightedGraph) (bound : ℕ) (first next : List Entry) : Type 0 where
  pub vertices : length first ≡ g.n
  pub darts : length next ≡ 2 * length g.edges
  pub firsts : (v : Vertex) → slice_index first v ≤ bound
  pub nexts : (d : Dart) → slice_index next d ≤ d
  pub all : (d : Dart) → d < bound → IsOn next (slice_index first ((darts_of g).near d)) d

-- All darts are.
abbrev pub AreFans : (g : WeightedGraph) (first next : List Entry) → Type 0
AreFans g first next = AreFansOf g (2 * length g.edges) first next

-- A dart is put at the front of the chain of a vertex.
pub record HasPut (old new : Fans) (v : Vertex) (d : Dart) : Type 0 where
  pub next : new.next.items ≡ slice_set old.next.items d (slice_index old.first.items v)
  pub first : new.first.items ≡ slice_set old.first.items v (d + 1)
