-- What the calls of a search need.
use Rattle.std.specs.Prelude.{◌≡◌, ◌≢◌, ℕ, ◌<◌, ◌≤◌, List, length, slice_index, None, pos}
use Rattle.def_matching.specs.Matching.{WeightedGraph, Vertex, EdgeNumber}
use Rattle.def_forest.specs.Forests.{Blossom}
use Rattle.def_forest.specs.Tables.{forest_of, edge_kind, IsValidFor}
use Rattle.def_forest.specs.declared.kinds.EdgeKind.{EdgeKind}
use Rattle.def_forest.specs.declared.kinds.EdgeKind.TheVariants.{Idle, Loose}
use Rattle.def_forest.specs.declared.kinds.Label.TheVariants.{Inner}
use Rattle.search_laws.specs.Keys.{Leaf, no_key, true_key}
use Rattle.search_laws.specs.Searches.{AreMatchedBefore}
use Rattle.qm_match.specs.States.{IsFreeEdge, IsIdle, IsMade, IsUnderWay, MayRefresh}
use Rattle.qm_match.specs.declared.search.Search.{Search}

-- A leaf of the tournament.
pub record IsLeafIn (g : WeightedGraph) (s : Search) (leaf : Leaf) : Type 0 where
  pub made : IsMade g s
  pub valid : IsValidFor g s.forest
  pub low : leaf < length s.tour

-- A list of vertices.
pub record AreVerticesIn (g : WeightedGraph) (s : Search) (list : List Vertex) : Type 0 where
  pub made : IsMade g s
  pub valid : IsValidFor g s.forest
  pub low : (k : ℕ) → k < length list → slice_index list k < g.n

-- A set that has parts.
pub record IsSetIn (g : WeightedGraph) (s : Search) (b : Blossom) : Type 0 where
  pub made : IsMade g s
  pub valid : IsValidFor g s.forest
  pub set : g.n ≤ b
  pub live : slice_index s.forest.parts b ≢ 0

-- A list of blossoms at each of which keys and marks may be made right.
pub record MayRefreshAll (g : WeightedGraph) (s : Search) (list : List Blossom) : Type 0 where
  pub made : IsMade g s
  pub may : (k : ℕ) → k < length list → MayRefresh g s (slice_index list k)

-- An edge allows a step of the search.
pub record MayStep (g : WeightedGraph) (s : Search) (e : EdgeNumber) (step : EdgeKind) : Type 0 where
  pub way : IsUnderWay g s
  pub edge : e < length g.edges
  pub kind : edge_kind g (forest_of s.forest) e ≡ step

-- It allows one of them.
pub record MayStepAlong (g : WeightedGraph) (s : Search) (e : EdgeNumber) : Type 0 where
  pub way : IsUnderWay g s
  pub edge : e < length g.edges
  pub some : edge_kind g (forest_of s.forest) e ≢ Loose
  pub step : edge_kind g (forest_of s.forest) e ≢ Idle

-- A set may be opened: it is inner, and its weight is used up.
pub record MayOpen (g : WeightedGraph) (s : Search) (b : Blossom) : Type 0 where
  pub way : IsUnderWay g s
  pub set : g.n ≤ b
  pub inner : (forest_of s.forest).label b ≡ Inner
  pub weightless : (forest_of s.forest).weight b ≡ pos 0

-- The key of a leaf has come.
pub record HasCome (g : WeightedGraph) (s : Search) (leaf : Leaf) : Type 0 where
  pub way : IsUnderWay g s
  pub low : leaf < length s.tour
  pub here : true_key g (forest_of s.forest) s.risen leaf ≡ s.risen
  pub few : s.risen < no_key

-- Nothing happens before the sum has risen to a key.
pub record IsNext (g : WeightedGraph) (s : Search) (key : ℕ) : Type 0 where
  pub way : IsUnderWay g s
  pub high : s.risen ≤ key
  pub least : (k : Leaf) → k < length s.tour → key ≤ true_key g (forest_of s.forest) s.risen k

-- No search goes on, and the vertices before one of the graph lie in matched blossoms.
pub record IsReached (g : WeightedGraph) (s : Search) (v : Vertex) : Type 0 where
  pub idle : IsIdle g s
  pub vertex : v < g.n
  pub before : AreMatchedBefore (forest_of s.forest) v

-- A search may begin at a vertex: its own blossom is not matched.
pub record MaySearch (g : WeightedGraph) (s : Search) (v : Vertex) : Type 0 where
  pub idle : IsIdle g s
  pub vertex : v < g.n
  pub before : AreMatchedBefore (forest_of s.forest) v
  pub free : (forest_of s.forest).mate ((forest_of s.forest).out v) ≡ None

-- All searches are done.
pub record IsDone (g : WeightedGraph) (s : Search) : Type 0 where
  pub idle : IsIdle g s
  pub all : AreMatchedBefore (forest_of s.forest) g.n

-- An edge where no search goes on.
pub record IsIdleAt (g : WeightedGraph) (s : Search) (e : EdgeNumber) : Type 0 where
  pub idle : IsIdle g s
  pub edge : e < length g.edges

-- One that may be matched.
pub record MayMatch (g : WeightedGraph) (s : Search) (e : EdgeNumber) : Type 0 where
  pub idle : IsIdle g s
  pub edge : e < length g.edges
  pub free : IsFreeEdge g (forest_of s.forest) e
