-- What the queries of a forest that is valid for a graph need, and its steps beside what callers see.
use Rattle.std.specs.Prelude.{◌≡◌, ◌≢◌, ℕ, ◌*◌, ◌<◌, length, None}
use Rattle.def_matching.specs.Matching.{WeightedGraph, Vertex}
use Rattle.def_forest.specs.Darts.{Dart, darts_of, far}
use Rattle.def_forest.specs.Forests.{Blossom}
use Rattle.def_forest.specs.Tables.{ForestTables, forest_of, IsValidFor}
use Rattle.def_forest.specs.Ways.{Reaches}
use Rattle.def_forest.specs.declared.kinds.Label.TheVariants.{Outside}
use Rattle.forest_laws.specs.Climbing.{rise_of, IsClimbing}

-- Two vertices.
pub record AreVertices (g : WeightedGraph) (t : ForestTables) (u v : Vertex) : Type 0 where
  pub valid : IsValidFor g t
  pub vertices : (u < length t.hand) × (v < length t.hand)

-- A blossom with a place in the tree.
pub record IsInTree (g : WeightedGraph) (t : ForestTables) (b : Blossom) : Type 0 where
  pub valid : IsValidFor g t
  pub named : (forest_of t).label b ≢ Outside

-- One that hangs on another.
pub record Hangs (g : WeightedGraph) (t : ForestTables) (b : Blossom) : Type 0 where
  pub valid : IsValidFor g t
  pub named : (forest_of t).label b ≢ Outside
  pub below : rise_of (forest_of t) b ≢ None

-- Two with a place in the tree.
pub record AreInTree (g : WeightedGraph) (t : ForestTables) (a c : Blossom) : Type 0 where
  pub valid : IsValidFor g t
  pub first : (forest_of t).label a ≢ Outside
  pub second : (forest_of t).label c ≢ Outside

-- The ways from both ends of a dart to the root meet after so many steps.
pub record WaysMeet (g : WeightedGraph) (t : ForestTables) (start : Dart) (top : Blossom) (left right : ℕ) : Type 0
  where
    pub valid : IsValidFor g t
    pub dart : start < 2 * length g.edges
    pub first : (forest_of t).label ((forest_of t).out ((darts_of g).near start)) ≢ Outside
    pub second : (forest_of t).label ((forest_of t).out (far (darts_of g) start)) ≢ Outside
    pub fork : IsClimbing (darts_of g) (forest_of t) ((forest_of t).out ((darts_of g).near start))
        ((forest_of t).out (far (darts_of g) start)) top top left right

-- The tree reaches a matched blossom by a dart.
pub record ReachesMatched (g : WeightedGraph) (t : ForestTables) (d : Dart) : Type 0 where
  pub valid : IsValidFor g t
  pub reaches : Reaches (darts_of g) (forest_of t) d
  pub matched : (forest_of t).mate ((forest_of t).out (far (darts_of g) d)) ≢ None

-- The tree reaches one that is not matched.
pub record ReachesFree (g : WeightedGraph) (t : ForestTables) (d : Dart) : Type 0 where
  pub valid : IsValidFor g t
  pub reaches : Reaches (darts_of g) (forest_of t) d
  pub free : (forest_of t).mate ((forest_of t).out (far (darts_of g) d)) ≡ None
