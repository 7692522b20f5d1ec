-- Numbers of vertices, lowered so far that the first edges have room.
use Rattle.std.specs.Prelude.{◌≡◌, ℕ, ◌+◌, ◌*◌, ◌<◌, ◌^◌}
use Rattle.std.specs.Prelude.{nat_lt, if◌then◌else◌, List, length, slice_index_or, slice_set}
use Rattle.std.specs.Prelude.{ℤ, pos, neg_ℤ, ◌+ℤ◌, ◌-ℤ◌, ◌*ℤ◌, ◌≤ℤ◌, ◌≤◌, int_lt, unsigned_abs}
use Rattle.def_matching.specs.declared.weighted.WEdge.{WEdge}
use Rattle.def_matching.specs.Matching.{WeightedGraph, EdgeNumber, Vertex, edge_at}
use Rattle.qm_initial.specs.declared.initial.TheConstants.{MAX_WISH}

-- No number is farther from 0 than a wish.
abbrev pub AreNear : (numbers : List ℤ) → Type 0
AreNear numbers = (v : Vertex) → unsigned_abs (slice_index_or numbers v (pos 0)) ≤ MAX_WISH

-- No number is far from 0. One that was lowered has another's number, which was at most the greatest wish, taken from
-- twice a cost.
abbrev pub AreWithin : (y : List ℤ) → Type 0
AreWithin y = (v : Vertex) → (slice_index_or y v (pos 0) ≤ℤ pos MAX_WISH)
    × (neg_ℤ (pos (2 ^ 58 + MAX_WISH)) ≤ℤ slice_index_or y v (pos 0))

-- The numbers, with that of one vertex lowered where its sum with that of another is above the most that they may have.
abbrev pub with_room : (most : ℤ) (y : List ℤ) (kept lowered : Vertex) → List ℤ
with_room most y kept lowered =
    if int_lt (most -ℤ slice_index_or y kept (pos 0)) (slice_index_or y lowered (pos 0))
    then slice_set y lowered (most -ℤ slice_index_or y kept (pos 0))
    else y

-- The numbers, with room for an edge: its greater end is lowered.
abbrev pub with_room_on : (edge : WEdge) (y : List ℤ) → List ℤ
with_room_on edge y =
    if nat_lt edge.u edge.v then with_room (pos 2 *ℤ edge.cost) y edge.u edge.v
    else with_room (pos 2 *ℤ edge.cost) y edge.v edge.u

-- The numbers at the ends of the first edges have sums of at most twice their costs.
abbrev pub AreFeasible : (g : WeightedGraph) (y : List ℤ) (edges : ℕ) → Type 0
AreFeasible g y edges = (e : EdgeNumber) → e < edges
    → (slice_index_or y (edge_at g e).u (pos 0) +ℤ slice_index_or y (edge_at g e).v (pos 0))
    ≤ℤ (pos 2 *ℤ (edge_at g e).cost)

-- The wishes, lowered for the first edges.
pub record AreWished (g : WeightedGraph) (wish y : List ℤ) (edges : ℕ) : Type 0 where
  pub long : length y ≡ length wish
  pub below : (v : Vertex) → slice_index_or y v (pos 0) ≤ℤ slice_index_or wish v (pos 0)
  pub within : AreWithin y
  -- A number that was lowered is no farther down than twice a cost and a wish.
  pub near : (most : ℕ) → ((e : EdgeNumber) → e < length g.edges → unsigned_abs (edge_at g e).cost ≤ most)
      → (v : Vertex) → neg_ℤ (pos (2 * most + MAX_WISH)) ≤ℤ slice_index_or y v (pos 0)
  pub feasible : AreFeasible g y edges
