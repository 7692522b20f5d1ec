-- First weights of the vertices.
use Rattle.std.specs.Prelude.{◌≡◌, ℕ, ◌*◌, ◌/◌, ◌^◌, ◌<◌, ◌≤◌, List, length, slice_index_or, unsigned_abs}
use Rattle.std.specs.Prelude.{ℤ, pos, ◌+ℤ◌, ◌-ℤ◌, ◌*ℤ◌, ◌≤ℤ◌}
use Rattle.def_matching.specs.Matching.{WeightedGraph, Vertex, EdgeNumber, edge_at}
use Rattle.def_forest.specs.Darts.{Dart, darts_of, far}
use Rattle.def_forest.specs.Made.{AreCostsBelow}
use Rattle.qm_match.specs.Fans.{AreFans}
use Rattle.qm_match.specs.declared.fans.Fans.{Fans}

-- An edge has no more at its ends than twice its cost.
abbrev pub HasRoom : (g : WeightedGraph) (y : List ℤ) (e : EdgeNumber) → Type 0
HasRoom g y e = (slice_index_or y (edge_at g e).u (pos 0) +ℤ slice_index_or y (edge_at g e).v (pos 0))
    ≤ℤ (pos 2 *ℤ (edge_at g e).cost)

-- No number is above a bound, up or down, and no edge has more at its ends than twice its cost.
pub record HaveRoom (g : WeightedGraph) (most : ℕ) (y : List ℤ) : Type 0 where
  pub long : length y ≡ g.n
  pub small : (v : Vertex) → unsigned_abs (slice_index_or y v (pos 0)) ≤ most
  pub feasible : (e : EdgeNumber) → e < length g.edges → HasRoom g y e

-- The same where all costs are within the bound, and that is not great: then nothing wraps.
pub record MayRise (g : WeightedGraph) (most : ℕ) (y : List ℤ) : Type 0 where
  pub few : most ≤ 2 ^ 60
  pub costs : AreCostsBelow g most
  pub room : HaveRoom g most y

-- The number of a vertex may rise.
pub record MayRiseAt (g : WeightedGraph) (chains : Fans) (most : ℕ) (y : List ℤ) (v : Vertex) : Type 0 where
  pub fans : AreFans g chains.first.items chains.next.items
  pub ready : MayRise g most y
  pub vertex : v < g.n

-- What the number at the far end of a dart leaves to the vertex where it begins.
abbrev pub left_to : (g : WeightedGraph) (y : List ℤ) (d : Dart) → ℤ
left_to g y d = (pos 2 *ℤ (edge_at g (d / 2)).cost) -ℤ slice_index_or y (far (darts_of g) d) (pos 0)

-- A vertex may have a number: it is at most a bound, and each edge there leaves so much.
pub record IsRoom (g : WeightedGraph) (most : ℕ) (y : List ℤ) (v : Vertex) (room : ℤ) : Type 0 where
  pub few : room ≤ℤ pos most
  pub each : (d : Dart) → d < 2 * length g.edges → (darts_of g).near d ≡ v → room ≤ℤ left_to g y d
