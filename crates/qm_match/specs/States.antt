-- The states of a search.
use Rattle.std.specs.Prelude.{◌≡◌, ◌≢◌, ℕ, ◌+◌, ◌*◌, ◌/◌, ◌<◌, ◌≤◌, ◌⊎◌, true, false, List, length, None, Some}
use Rattle.std.specs.Prelude.{slice_index, slice_index_or, unsigned_abs}
use Rattle.std.specs.Vec.{vec_capacity}
use Rattle.def_matching.specs.Matching.{WeightedGraph, Vertex, EdgeNumber, edge_at, IsCheap, IsPerfect, IsSmallGraph}
use Rattle.def_forest.specs.Darts.{Dart}
use Rattle.def_forest.specs.Forests.{Blossom, Forest}
use Rattle.def_forest.specs.Tables.{ForestTables, forest_of, slack_of, IsValidFor}
use Rattle.def_forest.specs.declared.kinds.Label.TheVariants.{Inner}
use Rattle.search_laws.specs.Keys.{Leaf, no_key, leaf_of, true_key, AreLow, AreRightAt, IsMended}
use Rattle.search_laws.specs.Searches.{AreMarked, AreMatchedBefore, IsInRange, IsSeeking, first_limit}
use Rattle.qm_match.specs.Fans.{AreFans, IsOn}
use Rattle.qm_match.specs.declared.search.Search.{Search}

-- A graph has a perfect matching.
abbrev pub HasPerfect : (g : WeightedGraph) → Type 0
HasPerfect g = (m : List EdgeNumber) × IsPerfect g m

-- The tables have room for a graph that has a perfect matching, and whose costs are small.
pub record IsMade (g : WeightedGraph) (s : Search) : Type 0 where
  pub small : IsSmallGraph g
  pub cheap : IsCheap g
  pub perfect : HasPerfect g
  pub fans : AreFans g s.fans.first.items s.fans.next.items
  pub size : length s.forest.up ≡ g.n + g.n / 2
  pub first : g.n * s.first ≤ first_limit
  pub low : s.first ≤ first_limit
  pub leaves : length s.tour ≡ length g.edges + (g.n / 2 + 1)
  pub marks : length s.inner.items ≡ g.n + g.n / 2
  pub members : g.n ≤ vec_capacity s.members
  pub parts : g.n ≤ vec_capacity s.parts

-- No search goes on.
pub record IsIdle (g : WeightedGraph) (s : Search) : Type 0 where
  pub made : IsMade g s
  pub valid : IsValidFor g s.forest
  pub no_tree : s.forest.root ≡ None
  pub few : (k : Leaf) → k < length s.tour → slice_index s.tour k ≤ no_key
  pub range : IsInRange g.n s.first (forest_of s.forest) s.risen

-- A search goes on.
pub record IsUnderWay (g : WeightedGraph) (s : Search) : Type 0 where
  pub made : IsMade g s
  pub valid : IsValidFor g s.forest
  pub tree : (r : Blossom) × (s.forest.root ≡ Some r)
  pub low : AreLow g (forest_of s.forest) s.risen s.tour
  pub marked : AreMarked (forest_of s.forest) s.inner.items
  pub range : IsInRange g.n s.first (forest_of s.forest) s.risen

-- The search goes on from the vertex from which it began.
abbrev pub GoesOn : (n : ℕ) (old new : ForestTables) → Type 0
GoesOn n old new = (v : Vertex) → IsSeeking n (forest_of old) old.root v → IsSeeking n (forest_of new) new.root v

-- The search has ended: the vertex from which it began is matched, and those before it still are.
abbrev pub HasEnded : (n : ℕ) (old new : ForestTables) → Type 0
HasEnded n old new = (v : Vertex) → IsSeeking n (forest_of old) old.root v → AreMatchedBefore (forest_of new) (v + 1)

-- Only keys and marks were mended.
pub record IsRefreshed (g : WeightedGraph) (old new : Search) : Type 0 where
  pub forest : new.forest ≡ old.forest
  pub risen : new.risen ≡ old.risen
  pub first : new.first ≡ old.first
  pub parts : new.parts.items ≡ old.parts.items
  pub made : IsMade g new
  pub mended : IsMended g (forest_of old.forest) old.risen old.tour new.tour
  pub marked : (b : Blossom) → (forest_of old.forest).label b ≡ Inner → slice_index_or old.inner.items b false ≡ true
      → slice_index_or new.inner.items b false ≡ true

-- Keys and marks may be made right at a blossom.
pub record MayRefresh (g : WeightedGraph) (s : Search) (b : Blossom) : Type 0 where
  pub made : IsMade g s
  pub valid : IsValidFor g s.forest
  pub low : b < length s.forest.up
  pub used : (b < g.n) ⊎ (slice_index s.forest.parts b ≢ 0)

-- The keys and the mark of a blossom are right: those of its edges, or its own where it is inner.
pub record IsFreshAt (g : WeightedGraph) (s : Search) (b : Blossom) : Type 0 where
  pub mark : (forest_of s.forest).label b ≡ Inner → slice_index_or s.inner.items b false ≡ true
  pub leaf : (forest_of s.forest).label b ≡ Inner → g.n ≤ b
      → slice_index s.tour (leaf_of g b) ≡ true_key g (forest_of s.forest) s.risen (leaf_of g b)
  pub edges : (forest_of s.forest).label b ≢ Inner
      → AreRightAt g (forest_of s.forest) s.risen s.tour ((forest_of s.forest).holds b)

-- The tables have room for the graphs for which their forest is valid, and no search has begun.
pub record IsReady (s : Search) : Type 0 where
  pub vertices : length s.fans.first.items ≡ length s.forest.hand
  pub darts : length s.fans.next.items ≡ length s.forest.near
  pub firsts : (v : Vertex) → slice_index s.fans.first.items v ≤ length s.forest.near
  pub nexts : (d : Dart) → slice_index s.fans.next.items d ≤ d
  pub all : (d : Dart) → d < length s.forest.near
      → IsOn s.fans.next.items (slice_index s.fans.first.items (slice_index s.forest.near d)) d
  pub leaves : 2 * length s.tour ≡ length s.forest.near + 2 * (length s.forest.hand / 2 + 1)
  pub marks : length s.inner.items ≡ length s.forest.hand + length s.forest.hand / 2
  pub members : length s.forest.hand ≤ vec_capacity s.members
  pub parts : length s.forest.hand ≤ vec_capacity s.parts
  pub few : (k : Leaf) → k < length s.tour → slice_index s.tour k ≤ no_key
  pub risen : s.risen ≡ 0
  -- The greatest weight, up or down.
  pub above : (b : Blossom) → b < length s.forest.up → unsigned_abs ((forest_of s.forest).weight b) ≤ s.first
  pub attained : (s.first ≡ 0) ⊎ ((b : Blossom) × (unsigned_abs ((forest_of s.forest).weight b) ≡ s.first))

-- A tight edge joins two outermost blossoms that are not matched.
pub record IsFreeEdge (g : WeightedGraph) (f : Forest) (e : EdgeNumber) : Type 0 where
  pub apart : f.out (edge_at g e).u ≢ f.out (edge_at g e).v
  pub left : f.mate (f.out (edge_at g e).u) ≡ None
  pub right : f.mate (f.out (edge_at g e).v) ≡ None
  pub tight : unsigned_abs (slack_of g f e) ≡ 0
