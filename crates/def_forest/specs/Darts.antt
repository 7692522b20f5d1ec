-- The darts of a graph: its edges with a direction.
use Rattle.std.specs.Prelude.{◌≡◌, ℕ, ◌+◌, ◌-◌, ◌*◌, ◌/◌, ◌%◌, ◌<◌, ◌==◌, if◌then◌else◌, length, ℤ}
use Rattle.def_matching.specs.Matching.{WeightedGraph, Vertex, edge_at}

-- A dart is a number, twice that of its edge, or one more for the other direction.
abbrev pub Dart : Type 0
Dart = ℕ

-- The darts of a graph, as functions: where a dart begins, the other dart of its edge, and what the edge costs.
pub record Darts : Type 0 where
  pub n : ℕ
  pub count : ℕ
  pub near : Dart → Vertex
  pub twin : Dart → Dart
  pub cost : Dart → ℤ

-- Where a dart ends.
abbrev pub far : (g : Darts) (d : Dart) → Vertex
far g d = g.near (g.twin d)

-- Darts begin at vertices, come in pairs, and both of a pair cost the same.
pub record AreDarts (g : Darts) : Type 0 where
  pub near_low : (d : Dart) → d < g.count → g.near d < g.n
  pub twin_low : (d : Dart) → d < g.count → g.twin d < g.count
  pub twin_twin : (d : Dart) → g.twin (g.twin d) ≡ d
  pub cost_twin : (d : Dart) → g.cost (g.twin d) ≡ g.cost d

-- The other dart of the same edge.
abbrev pub other_dart : (d : Dart) → Dart
other_dart d = if d % 2 == 0 then d + 1 else d - 1

-- The darts of a graph.
abbrev pub darts_of : (g : WeightedGraph) → Darts
darts_of g = record {
  n = g.n;
  count = 2 * length g.edges;
  near = λ d. if d % 2 == 0 then (edge_at g (d / 2)).u else (edge_at g (d / 2)).v;
  twin = other_dart;
  cost = λ d. (edge_at g (d / 2)).cost;
}
