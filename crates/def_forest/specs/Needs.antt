-- What steps of a forest that is valid for a graph need.
use Rattle.std.specs.Prelude.{◌≡◌, ◌≢◌, ℕ, ◌*◌, ◌^◌, ◌<◌, ◌≤◌, ◌⊎◌, true, length, slice_index, slice_index_or, List}
use Rattle.std.specs.Prelude.{None, ℤ, pos, ◌+ℤ◌, ◌*ℤ◌, ◌≤ℤ◌, unsigned_abs}
use Rattle.def_matching.specs.Matching.{WeightedGraph, EdgeNumber, Vertex, edge_at}
use Rattle.def_forest.specs.Darts.{Dart, darts_of}
use Rattle.def_forest.specs.Forests.{Blossom}
use Rattle.def_forest.specs.Steps.{shifted}
use Rattle.def_forest.specs.Tables.{ForestTables, forest_of, edge_kind, IsValidFor}
use Rattle.def_forest.specs.Valid.{IsFeasible}
use Rattle.def_forest.specs.declared.kinds.EdgeKind.{EdgeKind}
use Rattle.def_forest.specs.declared.kinds.Label.TheVariants.{Inner}

-- An edge of the graph.
pub record IsEdgeOf (g : WeightedGraph) (t : ForestTables) (e : EdgeNumber) : Type 0 where
  pub valid : IsValidFor g t
  pub edge : e < length g.edges

-- An edge of the graph allows a step.
pub record Allows (g : WeightedGraph) (t : ForestTables) (e : EdgeNumber) (step : EdgeKind) : Type 0 where
  pub valid : IsValidFor g t
  pub edge : e < length g.edges
  pub kind : edge_kind g (forest_of t) e ≡ step

-- A dart of a graph with as many vertices as the forest.
pub record IsDartOf (g : WeightedGraph) (t : ForestTables) (d : Dart) : Type 0 where
  pub vertices : length t.hand ≡ g.n
  pub dart : d < 2 * length g.edges

-- An inner set of weight 0.
pub record IsUsedUp (g : WeightedGraph) (t : ForestTables) (b : Blossom) : Type 0 where
  pub valid : IsValidFor g t
  pub set : g.n ≤ b
  pub inner : (forest_of t).label b ≡ Inner
  pub weightless : (forest_of t).weight b ≡ pos 0

-- A blossom that is in use: a vertex, or a set with parts.
pub record IsUsed (t : ForestTables) (b : Blossom) : Type 0 where
  pub low : b < length t.up
  pub used : (b < length t.hand) ⊎ (slice_index t.parts b ≢ 0)

-- A vertex that a blossom holds.
pub record IsHeld (t : ForestTables) (b : Blossom) (v : Vertex) : Type 0 where
  pub low : b < length t.up
  pub vertex : v < length t.hand
  pub held : (forest_of t).holds b v ≡ true

-- A search may begin at a vertex: there is none, and its blossom is not matched.
pub record MayBegin (t : ForestTables) (v : Vertex) : Type 0 where
  pub vertex : v < length t.hand
  pub none : t.root ≡ None
  pub free : (forest_of t).mate ((forest_of t).out v) ≡ None

-- The dual may be shifted by a number: it stays feasible, and its weights stay small.
pub record MayShift (g : WeightedGraph) (t : ForestTables) (by : ℤ) : Type 0 where
  pub valid : IsValidFor g t
  pub positive : pos 0 ≤ℤ by
  pub feasible : IsFeasible (darts_of g) (shifted (forest_of t) by)
  pub small : (b : Blossom) → unsigned_abs ((shifted (forest_of t) by).weight b) ≤ 2 ^ 62

-- A number for each vertex, none of them large, such that no edge has more at its ends than twice its cost.
pub record AreFeasible (g : WeightedGraph) (lows : List ℤ) : Type 0 where
  pub size : length lows ≡ g.n
  pub small : (v : Vertex) → unsigned_abs (slice_index_or lows v (pos 0)) ≤ 2 ^ 60
  pub edges : (e : ℕ) → e < length g.edges
      → (slice_index_or lows (edge_at g e).u (pos 0) +ℤ slice_index_or lows (edge_at g e).v (pos 0))
      ≤ℤ (pos 2 *ℤ (edge_at g e).cost)
