-- A matcher that is made for a graph.
use Rattle.std.specs.Prelude.{◌≡◌, ℕ, ◌+◌, ◌*◌, ◌/◌, ◌<◌, ◌≤◌, length, None}
use Rattle.std.specs.Prelude.{List, ℤ, pos, ◌+ℤ◌, ◌*ℤ◌, ◌≤ℤ◌, unsigned_abs, slice_index_or}
use Rattle.def_matching.specs.Matching.{WeightedGraph, EdgeNumber, Vertex, IsCheap, edge_at}
use Rattle.def_matching.specs.declared.limits.TheConstants.{MAX_PRODUCT}
use Rattle.def_matching.specs.Dual.{DualLists, SetNumber, y_at, z_at}
use Rattle.def_forest.specs.Forests.{Blossom}
use Rattle.def_forest.specs.Tables.{ForestTables, forest_of, IsValidFor}

-- First weights are in range: the number of vertices times one is at most 2.5 times what it is for a cost.
abbrev pub MAX_FIRST : ℕ
MAX_FIRST = 2 * MAX_PRODUCT + MAX_PRODUCT / 2

-- No cost is above a number, up or down.
abbrev pub AreCostsBelow : (g : WeightedGraph) (most : ℕ) → Type 0
AreCostsBelow g most = (k : EdgeNumber) → k < length g.edges → unsigned_abs (edge_at g k).cost ≤ most

-- No number of a dual is above a bound, up or down.
pub record AreAtMost (most : ℕ) (d : DualLists) : Type 0 where
  pub vertices : (v : Vertex) → v < length d.y → unsigned_abs (y_at d v) ≤ most
  pub sets : (k : SetNumber) → k < length d.z → unsigned_abs (z_at d k) ≤ most

-- Numbers of the vertices that may be the first weights: no edge has more at its ends than twice its cost.
pub record AreFirst (g : WeightedGraph) (y : List ℤ) : Type 0 where
  pub long : length y ≡ g.n
  pub range : (v : Vertex) → g.n * unsigned_abs (slice_index_or y v (pos 0)) ≤ MAX_FIRST
  pub feasible : (e : EdgeNumber) → e < length g.edges
      → (slice_index_or y (edge_at g e).u (pos 0) +ℤ slice_index_or y (edge_at g e).v (pos 0))
      ≤ℤ (pos 2 *ℤ (edge_at g e).cost)

-- The forest is valid for the graph, no tree stands in it, no set has a weight, and where the costs are small, so are
-- the weights.
pub record IsMadeFor (g : WeightedGraph) (t : ForestTables) : Type 0 where
  pub valid : IsValidFor g t
  pub no_tree : t.root ≡ None
  pub size : length t.up ≡ g.n + g.n / 2
  pub sets : (b : Blossom) → g.n ≤ b → (forest_of t).weight b ≡ pos 0
  pub small : IsCheap g → (b : Blossom) → g.n * unsigned_abs ((forest_of t).weight b) ≤ MAX_FIRST
