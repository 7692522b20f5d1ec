-- What lowering one vertex does to the numbers.
use Rattle.std.proofs.Common.{◌≡◌, ◌≢◌, ◌⊎◌, ℕ, ◌+◌, ◌*◌, ◌<◌, ◌≤◌, ◌^◌, Bool, true, false, cond, ltb, List, length}
use Rattle.std.proofs.Common.{◌∙◌, refl, inl, inr, arith, get_or, set, ℤ, pos, neg_ℤ, ◌+ℤ◌, ◌-ℤ◌, ◌*ℤ◌, ◌≤ℤ◌, int_lt}
use Rattle.std.proofs.Common.{unsigned_abs, sym, subst, ap}
use Rattle.std.proofs.lemmas.List.{get_or-set_same, get_or-set_other, length-set}
use Rattle.def_matching.specs.Matching.{WeightedGraph, EdgeNumber, Vertex, edge_at, IsGraph}
use Rattle.qm_initial.specs.Lowered.{with_room, with_room_on, AreFeasible, AreWished}
use Rattle.{std.proofs.lemmas.Bool.cases_eq, std.proofs.lemmas.Int.ints, list_laws.proofs.Filters.last_or}
use Rattle.{def_matching.specs.declared.weighted.WEdge.WEdge, qm_initial.specs.declared.initial.TheConstants.MAX_WISH}

-- The two ends of an edge, in one order or the other.
abbrev pub AreEnds : (g : WeightedGraph) (k : EdgeNumber) (a b : Vertex) → Type 0
AreEnds g k a b = ((a ≡ (edge_at g k).u) × (b ≡ (edge_at g k).v)) ⊎ ((a ≡ (edge_at g k).v) × (b ≡ (edge_at g k).u))

module _ (g : WeightedGraph) (lawful : IsGraph g) (cheap : (e : EdgeNumber) → e < length g.edges → unsigned_abs
    (edge_at g e).cost ≤ 2 ^ 57) (wish y : List ℤ) (k : EdgeNumber) (low : k < length g.edges)
    (so : AreWished g wish y k) (long : length wish ≡ g.n) (a b : Vertex) (ends : AreEnds g k a b) where
  abbrev most : ℤ
  most = pos 2 *ℤ (edge_at g k).cost

  b_low : b < length y
  b_low = elim ends [
    | inl e ↦ omega (arith, e.1, lawful.right k low, so.long, long)
    | inr e ↦ omega (arith, e.1, lawful.left k low, so.long, long)
  ]

  apart : a ≢ b
  apart = elim ends [
    | inl e ↦ λ same. lawful.apart k low (sym e.0 ∙ (same ∙ e.1))
    | inr e ↦ λ same. lawful.apart k low (sym e.1 ∙ (sym same ∙ e.0))
  ]

  abbrev at : (v : Vertex) → ℤ
  at v = get_or y v (pos 0)

  -- Room for the edge, where its ends have room in this order.
  both : (new : List ℤ) → (get_or new a (pos 0) +ℤ get_or new b (pos 0)) ≤ℤ most
      → (get_or new (edge_at g k).u (pos 0) +ℤ get_or new (edge_at g k).v (pos 0)) ≤ℤ most
  both new room = elim ends [
    | inl e ↦ subst (λ (v : Vertex). (get_or new (edge_at g k).u (pos 0) +ℤ get_or new v (pos 0)) ≤ℤ most) e.1
        (subst (λ (u : Vertex). (get_or new u (pos 0) +ℤ get_or new b (pos 0)) ≤ℤ most) e.0 room)
    | inr e ↦ turned (get_or new (edge_at g k).v (pos 0)) (get_or new (edge_at g k).u (pos 0))
        (subst (λ (v : Vertex). (get_or new (edge_at g k).v (pos 0) +ℤ get_or new v (pos 0)) ≤ℤ most) e.1
        (subst (λ (u : Vertex). (get_or new u (pos 0) +ℤ get_or new b (pos 0)) ≤ℤ most) e.0 room))
  ]
    where
      turned : (p q : ℤ) → (p +ℤ q) ≤ℤ most → (q +ℤ p) ≤ℤ most
      turned p q h = grind (arith, ints)

  -- Numbers that are no greater have room where the old ones had it.
  still : (new : List ℤ) → ((v : Vertex) → get_or new v (pos 0) ≤ℤ at v) → AreFeasible g new k
  still new less e l = less_sum (at (edge_at g e).u) (at (edge_at g e).v) (get_or new (edge_at g e).u (pos 0))
      (get_or new (edge_at g e).v (pos 0)) (pos 2 *ℤ (edge_at g e).cost) (less (edge_at g e).u) (less (edge_at g e).v)
      (so.feasible e l)
    where
      less_sum : (p q r s m : ℤ) → r ≤ℤ p → s ≤ℤ q → (p +ℤ q) ≤ℤ m → (r +ℤ s) ≤ℤ m
      less_sum p q r s m h i j = grind (arith, ints)

  abbrev lowered : List ℤ
  lowered = set y b (most -ℤ at a)

  same_b : get_or lowered b (pos 0) ≡ (most -ℤ at a)
  same_b = get_or-set_same y b (most -ℤ at a) (pos 0) b_low

  other : (v : Vertex) → v ≢ b → get_or lowered v (pos 0) ≡ at v
  other v ne = get_or-set_other y b v (most -ℤ at a) (pos 0) ne

  less : most ≤ℤ (at a +ℤ at b) → (v : Vertex) → get_or lowered v (pos 0) ≤ℤ at v
  less high v = elim (cases_eq v b) [
    | inl e ↦ rw (e, same_b) (down (at a) (at b) high)
    | inr ne ↦ rw (other v ne) (itself (at v))
  ]
    where
      down : (p q : ℤ) → most ≤ℤ (p +ℤ q) → (most -ℤ p) ≤ℤ q
      down p q h = grind (arith, ints)

      itself : (p : ℤ) → p ≤ℤ p
      itself p = grind (arith, ints)

  not_far : (v : Vertex) → neg_ℤ (pos (2 ^ 58 + MAX_WISH)) ≤ℤ get_or lowered v (pos 0)
  not_far v = elim (cases_eq v b) [
    | inl e ↦ rw (e, same_b) (from_cost (edge_at g k).cost (at a) (cheap k low) (so.within a).0)
    | inr ne ↦ rw (other v ne) (so.within v).1
  ]
    where
      from_cost : (c p : ℤ) → unsigned_abs c ≤ 2 ^ 57 → p ≤ℤ pos MAX_WISH
          → neg_ℤ (pos (2 ^ 58 + MAX_WISH)) ≤ℤ ((pos 2 *ℤ c) -ℤ p)
      from_cost c p small high = grind (arith, ints)

  near : (c : ℕ) → ((e : EdgeNumber) → e < length g.edges → unsigned_abs (edge_at g e).cost ≤ c) → (v : Vertex)
      → neg_ℤ (pos (2 * c + MAX_WISH)) ≤ℤ get_or lowered v (pos 0)
  near c small v = elim (cases_eq v b) [
    | inl e ↦ rw (e, same_b) (from_cost (edge_at g k).cost (at a) (small k low) (so.within a).0)
    | inr ne ↦ rw (other v ne) (so.near c small v)
  ]
    where
      from_cost : (d p : ℤ) → unsigned_abs d ≤ c → p ≤ℤ pos MAX_WISH
          → neg_ℤ (pos (2 * c + MAX_WISH)) ≤ℤ ((pos 2 *ℤ d) -ℤ p)
      from_cost d p small high = grind (arith, ints)

  by_test : (test : Bool) → int_lt (most -ℤ at a) (at b) ≡ test → AreWished g wish (cond test lowered y) (k + 1)
  by_test true over =
      let high : most ≤ℤ (at a +ℤ at b) = above (at a) (at b) over in record {
        long = length-set y b (most -ℤ at a) ∙ so.long;
        below = λ v. through (get_or lowered v (pos 0)) (at v) (get_or wish v (pos 0)) (less high v) (so.below v);
        within = λ v. (
          through (get_or lowered v (pos 0)) (at v) (pos MAX_WISH) (less high v) (so.within v).0,
          not_far v,
        );
        near = near;
        feasible = λ e l. elim (last_or k e l) [
          | inl earlier ↦ still lowered (less high) e earlier
          | inr last ↦ rw last (both lowered (rw (other a apart, same_b) (met (at a))))
        ];
      }
    where
      above : (p q : ℤ) → int_lt (most -ℤ p) q ≡ true → most ≤ℤ (p +ℤ q)
      above p q h = grind (arith, ints)

      through : (p q r : ℤ) → p ≤ℤ q → q ≤ℤ r → p ≤ℤ r
      through p q r h i = grind (arith, ints)

      met : (p : ℤ) → (p +ℤ (most -ℤ p)) ≤ℤ most
      met p = grind (arith, ints)
  by_test false under = record {
    long = so.long;
    below = so.below;
    within = so.within;
    near = so.near;
    feasible = λ e l. elim (last_or k e l) [
      | inl earlier ↦ so.feasible e earlier
      | inr last ↦ rw last (both y (not_above (at a) (at b) under))
    ];
  }
    where
      not_above : (p q : ℤ) → int_lt (most -ℤ p) q ≡ false → (p +ℤ q) ≤ℤ most
      not_above p q h = grind (arith, ints)

  one_more : (new : List ℤ) → new ≡ with_room most y a b → AreWished g wish new (k + 1)
  one_more new is = rw is (by_test (int_lt (most -ℤ at a) (at b)) refl)

-- The numbers have room for one edge more.
pub more_room : (g : WeightedGraph) → IsGraph g
    → ((e : EdgeNumber) → e < length g.edges → unsigned_abs (edge_at g e).cost ≤ 2 ^ 57)
    → (wish y new : List ℤ) (k : EdgeNumber) (edge : WEdge) → k < length g.edges → AreWished g wish y k
    → length wish ≡ g.n → edge ≡ edge_at g k → new ≡ with_room_on edge y → AreWished g wish new (k + 1)
more_room g lawful cheap wish y new k edge low so long at is =
    by_order (ltb (edge_at g k).u (edge_at g k).v) (is ∙ ap (λ (e : WEdge). with_room_on e y) at)
  where
    by_order : (b : Bool) → new ≡ cond b (with_room (pos 2 *ℤ (edge_at g k).cost) y (edge_at g k).u (edge_at g k).v)
        (with_room (pos 2 *ℤ (edge_at g k).cost) y (edge_at g k).v (edge_at g k).u)
        → AreWished g wish new (k + 1)
    by_order true e = one_more g lawful cheap wish y k low so long (edge_at g k).u (edge_at g k).v (inl (refl, refl))
        new e
    by_order false e = one_more g lawful cheap wish y k low so long (edge_at g k).v (edge_at g k).u (inr (refl, refl))
        new e
