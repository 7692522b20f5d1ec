-- What raising the number of one vertex does.
use Rattle.std.proofs.Common.{rules, ◌≡◌, ◌≢◌, ℕ, ◌+◌, ◌*◌, ◌/◌, ◌<◌, ◌≤◌, ◌^◌, List, length, get_or, ℤ, pos, ◌+ℤ◌}
use Rattle.std.proofs.Common.{◌*ℤ◌, ◌≤ℤ◌, refl, sym, ◌∙◌, ap, inl, inr, arith}
use Rattle.std.{proofs.Math.ListN.set, specs.Int.RustNames.unsigned_abs}
use Rattle.std.proofs.lemmas.{Int.ints, Bool.cases_eq, List.length-set, List.get_or-set_same, List.get_or-set_other}
use Rattle.def_matching.specs.Matching.{WeightedGraph, IsGraph, edge_at}
use Rattle.def_matching.specs.declared.weighted.WEdge.{WEdge}
use Rattle.def_forest.specs.{Darts.darts_of, Darts.far, Made.AreCostsBelow}
use Rattle.forest_laws.proofs.Bounds.{dart_near, dart_far, near_odd}
use Rattle.qm_match.specs.Weights.{HasRoom, HaveRoom, IsRoom}

-- A cost that is read is small, and so is a number.
pub cost_small : (g : WeightedGraph) (most k : ℕ) → AreCostsBelow g most → most ≤ 2 ^ 60 → k < length g.edges
    → {edge : WEdge} → edge ≡ edge_at g k → unsigned_abs edge.cost ≤ 2 ^ 60
cost_small g most k costs few low {edge} is = search rules

-- An edge's second dart ends where the edge begins.
odd_far : (g : WeightedGraph) (k : ℕ) → far (darts_of g) (2 * k + 1) ≡ (edge_at g k).u
odd_far g k = search rules

module _ {g : WeightedGraph} (lawful : IsGraph g) {most : ℕ} {y : List ℤ} (have : HaveRoom g most y) {v : ℕ}
    (low : v < g.n) {room : ℤ} (is : IsRoom g most y v room) (above : get_or y v (pos 0) ≤ℤ room) where
  abbrev raised : List ℤ
  raised = set y v room

  raised_here : get_or raised v (pos 0) ≡ room
  raised_here = get_or-set_same y v room (pos 0) (omega (arith, low, have.long))

  raised_other : (w : ℕ) → w ≢ v → get_or raised w (pos 0) ≡ get_or y w (pos 0)
  raised_other w ne = get_or-set_other y v w room (pos 0) ne

  -- The edge of a dart from the vertex.
  at_dart : (d : ℕ) {e a b : ℕ} → d < 2 * length g.edges → d / 2 ≡ e → (darts_of g).near d ≡ a → far (darts_of g) d ≡ b
      → a ≡ v → b ≢ a
      → (get_or raised a (pos 0) +ℤ get_or raised b (pos 0)) ≤ℤ (pos 2 *ℤ (edge_at g e).cost)
  at_dart d {b = b} l half near far_is here ne =
      let leaves = rw (half, far_is) at (is.each d l (near ∙ here)) in
      let there = raised_other b (λ s. ne (s ∙ sym here)) in
      omega (arith, ints, ap (λ x. get_or raised x (pos 0)) here, raised_here)

  feasible : (e : ℕ) → e < length g.edges → HasRoom g raised e
  feasible e l = elim (cases_eq (edge_at g e).u v) [
    | inl here ↦ search (rules, at_dart (2 * e), dart_near g e, dart_far g e, lawful.apart e l)
    | inr off ↦ elim (cases_eq (edge_at g e).v v) [
      | inl here ↦ let turned = at_dart (2 * e + 1) {e = e} (omega arith) (omega arith) (near_odd g (2 * e + 1) e refl)
          (odd_far g e) here (lawful.apart e l) in omega (arith, ints)
      | inr away ↦ search (rules, raised_other)
    ]
  ]

  pub raised_room : HaveRoom g most raised
  raised_room = record {
    long = length-set y v room ∙ have.long;
    small = λ w. grind (arith, ints, cases_eq w v, raised_here, raised_other w, have.small w, is.few);
    feasible = feasible;
  }
