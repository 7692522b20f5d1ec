-- The bounds of an arc of a network within bounds.
use Rattle.std.proofs.Common.{◌≡◌, ℕ, ◌<◌, ◌≤◌, true, length, arith}
use Rattle.std.proofs.{lemmas.List.Sums.AllPass-from_list_all, lemmas.Bool.Decides.nat_tests}
use Rattle.std.specs.{Prelude.nat_lt, List.list_all}
use Rattle.def_flow.specs.Network.{Network, IsWithinBounds, is_bounded, arc_at, ends}
use Rattle.def_flow.specs.{declared.net.Arc.Arc, declared.net.End.End}

-- An arc within bounds, with its ends at nodes.
pub record IsBoundedArc (nodes : ℕ) (a : Arc) : Type 0 where
  pub weight_low : 1 ≤ a.weight
  pub weight_high : a.weight ≤ 1000
  pub old : a.old ≤ 4000000000
  pub floor_low : 1 ≤ a.floor
  pub floor_high : a.floor ≤ 3
  pub ends : list_all (λ (e : End). nat_lt e.node nodes) (ends a) ≡ true

-- An arc that passes the test is within bounds.
pub bounded_arc : {nodes : ℕ} {a : Arc} → is_bounded nodes a ≡ true → IsBoundedArc nodes a
bounded_arc on = grind (arith, nat_tests, on)

-- Each arc passes the test of its bounds.
pub arc_bounded : (net : Network) → IsWithinBounds net → (k : ℕ) → k < length net.arcs
    → is_bounded net.nodes (arc_at net.arcs k) ≡ true
arc_bounded net within k l = AllPass-from_list_all (is_bounded net.nodes) net.arcs within.arcs k _ l

-- The same, as a record.
pub arc_within : {net : Network} → IsWithinBounds net → {k : ℕ} → k < length net.arcs
    → IsBoundedArc net.nodes (arc_at net.arcs k)
arc_within {net} within {k} l = bounded_arc (arc_bounded net within k l)
