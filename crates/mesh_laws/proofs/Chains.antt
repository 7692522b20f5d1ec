-- The steps round a face.
use Rattle.std.proofs.Common.{rules, ◌≡◌, ℕ, ◌+◌, ◌/◌, ◌%◌, ◌-◌, ◌<◌, ◌≤◌, ap, ◌∙◌, arith, ◌≢◌, ◌⊎◌, zero, suc, Bool}
use Rattle.std.proofs.Common.{true, false, not, [], ◌∷◌, sym, subst, refl, inl, inr, List, length, get_or, Some, None}
use Rattle.std.proofs.lemmas.Bool.{cases_lt, cases_eq, eq-eqb, eqb-true, and_parts, and_from, Decides.nat_tests}
use Rattle.def_mesh.specs.Darts.{darts, next_of, prev_of, from_of, to_of, IsTwin, is_reverse, twin_of}
use Rattle.def_mesh.specs.Manifold.{IsRepeatFree, HasEdgesOnce, AreNeighbours, Chain, meet}
use Rattle.def_mesh.specs.{Faces.Faces, Faces.corner, Vertices.fan_of, HalfEdges.AreTurned, HalfEdges.Turns}
use Rattle.def_mesh.specs.{HalfEdges.half_edges, HalfEdges.ManifoldLaw}
use Rattle.list_laws.proofs.Filters.{kept_at, place_of, rises, find_none, find_one, find_passes}

-- The dart after a dart is a dart, and so is the one before.
pub next_of_low : (faces : Faces) (d : ℕ) → d < darts faces → next_of d < darts faces
next_of_low faces d l = grind (arith, nat_tests)

pub prev_of_low : (faces : Faces) (d : ℕ) → d < darts faces → prev_of d < darts faces
prev_of_low faces d l = grind (arith, nat_tests)

-- Each undoes the other.
pub prev_of-next_of : (d : ℕ) → prev_of (next_of d) ≡ d
prev_of-next_of d = grind (arith, nat_tests)

pub next_of-prev_of : (d : ℕ) → next_of (prev_of d) ≡ d
next_of-prev_of d = grind (arith, nat_tests)

-- The next dart belongs to the same face, and begins at its next corner.
pub next_face : (d : ℕ) → next_of d / 4 ≡ d / 4
next_face d = grind (arith, nat_tests)

pub two_on : (d : ℕ) → (d % 4 < 2 → next_of (next_of d) % 4 ≡ d % 4 + 2)
    × (2 ≤ d % 4 → next_of (next_of d) % 4 ≡ d % 4 - 2)
two_on d = (λ l. grind (arith, nat_tests), λ l. grind (arith, nat_tests))

-- The dart before one that leaves v arrives there.
pub before_ends : (faces : Faces) (v d e : ℕ) → e ≡ prev_of d → from_of faces d ≡ v → to_of faces e ≡ v
before_ends faces v d e is leaves = ap (to_of faces) is ∙ ap (from_of faces) (next_of-prev_of d) ∙ leaves

pub before_low : (faces : Faces) (d e : ℕ) → e ≡ prev_of d → d < darts faces → e < darts faces
before_low faces d e is l = omega (arith, is, prev_of_low faces d l)

-- Chains of neighbours round a vertex: their steps, their ends, one after another, and back.

-- The ends of a dart differ.
pub ends_differ : (faces : Faces) → IsRepeatFree faces → (d : ℕ) → d < darts faces → from_of faces d ≢ to_of faces d
ends_differ faces free d l same = search rules

-- Corner e lies beside d: behind the edge of the dart before d to the left, behind that of d to the right.
abbrev pub Step : Faces → Bool → ℕ → ℕ → Type 0
Step faces true d e = IsTwin faces (prev_of d) e
Step faces false d e = IsTwin faces (prev_of e) d

-- What lies beside d to the one side has d beside it to the other.
pub step_back : (faces : Faces) (left : Bool) (d e : ℕ) → Step faces (not left) d e → Step faces left e d
step_back faces true d e s = s
step_back faces false d e s = s

-- The ends of the dart before d.
pub before_from : (faces : Faces) (d : ℕ) → to_of faces (prev_of d) ≡ from_of faces d
before_from faces d = ap (from_of faces) (next_of-prev_of d)

pub step_vertex : (faces : Faces) (left : Bool) (d e : ℕ) → Step faces left d e → from_of faces d ≡ from_of faces e
step_vertex faces true d e s = sym (s.1 ∙ before_from faces d)
step_vertex faces false d e s = s.1 ∙ before_from faces e

-- Two lists of two numbers have one in common where one of four pairs is equal.
abbrev pub ShareOne : (a b x y : ℕ) → Type 0
ShareOne a b x y = (a ≡ y) ⊎ ((x ≡ b) ⊎ ((a ≡ x) ⊎ (b ≡ y)))

pub meet_from : (a b x y : ℕ) → ShareOne a b x y → meet (a ∷ b ∷ []) (x ∷ y ∷ []) ≡ true
meet_from a b x y s = grind (arith, nat_tests)

pub step_neighbour : (faces : Faces) (left : Bool) (d e : ℕ) → Step faces left d e → AreNeighbours faces d e
step_neighbour faces true d e s = meet_from _ _ _ _ (inr (inl s.2))
step_neighbour faces false d e s = meet_from _ _ _ _ (inl s.2)

pub neighbour_back : (faces : Faces) (d e : ℕ) → AreNeighbours faces d e → AreNeighbours faces e d
neighbour_back faces d e n =
    back (to_of faces d) (from_of faces (prev_of d)) (to_of faces e) (from_of faces (prev_of e)) n
  where
    back : (a b x y : ℕ) → meet (a ∷ b ∷ []) (x ∷ y ∷ []) ≡ true → meet (x ∷ y ∷ []) (a ∷ b ∷ []) ≡ true
    back a b x y t = grind (arith, nat_tests)

-- With each edge once, a neighbour is the corner itself or beside it.
pub neighbour_step : (faces : Faces) → HasEdgesOnce faces → (d e : ℕ) → d < darts faces → e < darts faces
    → from_of faces d ≡ from_of faces e → AreNeighbours faces d e → (d ≡ e) ⊎ ((left : Bool) × Step faces left d e)
neighbour_step faces once d e low high same n = by_case (grind (arith, nat_tests))
  where
    by_case : ShareOne (to_of faces d) (from_of faces (prev_of d)) (to_of faces e) (from_of faces (prev_of e))
        → (d ≡ e) ⊎ ((left : Bool) × Step faces left d e)
    by_case (inl a) = inr (false, (low, same ∙ sym (before_from faces e), a))
    by_case (inr (inl a)) = inr (true, (high, sym same ∙ sym (before_from faces d), a))
    by_case (inr (inr (inl a))) = inl (once d e low high (same, a))
    by_case (inr (inr (inr a))) = inl (sym (next_of-prev_of d)
        ∙ ap next_of (search (rules, prev_of_low, before_from)) ∙ next_of-prev_of e)

-- Chains: their ends, one after another, and back.
pub chain_low : (faces : Faces) (d e n : ℕ) → d < darts faces → Chain faces d e n → e < darts faces
chain_low faces d e zero l c = subst (λ (x : ℕ). x < darts faces) c l
chain_low faces d e (suc n) l c = c.2

pub chain_vertex : (faces : Faces) (d e n : ℕ) → Chain faces d e n → from_of faces d ≡ from_of faces e
chain_vertex faces d e zero c = ap (from_of faces) c
chain_vertex faces d e (suc n) c = chain_vertex faces d c.0 n c.1 ∙ c.3

pub chain_join : (faces : Faces) (d c e n m : ℕ) → Chain faces d c n → Chain faces c e m → (k : ℕ) × Chain faces d e k
chain_join faces d c e n zero a b = (n, subst (λ (x : ℕ). Chain faces d x n) b a)
chain_join faces d c e n (suc m) a b =
    let j = chain_join faces d c b.0 n m a b.1 in (suc j.0, (b.0, j.1, b.2, b.3, b.4))

pub chain_back : (faces : Faces) (d e n : ℕ) → d < darts faces → Chain faces d e n → (k : ℕ) × Chain faces e d k
chain_back faces d e zero l c = (0, sym c)
chain_back faces d e (suc n) l c =
    let b = chain_back faces d c.0 n l c.1 in
    chain_join faces e c.0 d 1 b.0 (e, refl, chain_low faces d c.0 n l c.1, sym c.3, neighbour_back faces c.0 e c.4) b.1

pub twin_differs : (faces : Faces) → IsRepeatFree faces → (d e : ℕ) → d < darts faces → IsTwin faces d e → e ≢ d
twin_differs faces free d e l is same = ends_differ faces free d l (sym (ap (from_of faces) same) ∙ is.1)

-- One dart lies beside a corner to each side.
pub step_once : (faces : Faces) → HasEdgesOnce faces → (left : Bool) (d e k : ℕ) → d < darts faces → e < darts faces
    → k < darts faces → Step faces left d e → Step faces left d k → e ≡ k
step_once faces once true d e k l m h s t = once e k m h (s.1 ∙ sym t.1, s.2 ∙ sym t.2)
step_once faces once false d e k l m h s t = sym (next_of-prev_of e) ∙ ap next_of (once (prev_of e) (prev_of k)
    (prev_of_low faces e m) (prev_of_low faces k h) (sym s.2 ∙ t.2, sym s.1 ∙ t.1)) ∙ next_of-prev_of k

-- The fan of a vertex by places.

-- The fan of v by places: its entries are the darts that leave v, each at one place, increasing.
pub record IsFan (faces : Faces) (v : ℕ) (fan : List ℕ) : Type 0 where
  pub dart : (t : ℕ) → t < length fan → get_or fan t 0 < darts faces
  pub leaves : (t : ℕ) → t < length fan → from_of faces (get_or fan t 0) ≡ v
  pub place : (d : ℕ) → d < darts faces → from_of faces d ≡ v → (t : ℕ) × (t < length fan) × (get_or fan t 0 ≡ d)
  pub increasing : (s t : ℕ) → s < t → t < length fan → get_or fan s 0 < get_or fan t 0

pub fan_of_is : (faces : Faces) (v : ℕ) → IsFan faces v (fan_of faces v)
fan_of_is faces v = search (rules, kept_at, place_of, rises)

pub is_fan : (faces : Faces) (v : ℕ) (fan : List ℕ) → fan ≡ fan_of faces v → IsFan faces v fan
is_fan faces v fan e = subst (λ (xs : List ℕ). IsFan faces v xs) (sym e) (fan_of_is faces v)

-- A dart that leaves v and is less than that at place i has an earlier place.
pub earlier_place : (faces : Faces) (v : ℕ) (fan : List ℕ) → IsFan faces v fan → (i j : ℕ) → i < length fan
    → j < get_or fan i 0 → from_of faces j ≡ v → (t : ℕ) × (t < i) × (get_or fan t 0 ≡ j)
earlier_place faces v fan h i j l m e =
    let (t, low, s) = h.place j (omega (arith, h.dart i l)) e in
    elim (cases_lt t i) [
      | inl b ↦ (t, b, s)
      | inr b ↦ absurd (elim (cases_eq i t) [
        | inl q ↦ omega (arith, ap (λ x. get_or fan x 0) q)
        | inr ne ↦ omega (arith, h.increasing i t (omega arith) low)
      ])
    ]

-- The twin that a search finds is the dart with the ends exchanged.

pub reverse_twin : (faces : Faces) (d e : ℕ) → e < darts faces → is_reverse faces d e ≡ true → IsTwin faces d e
reverse_twin faces d e l r = (l, eqb-true _ _ (and_parts _ _ r).0, eqb-true _ _ (and_parts _ _ r).1)

pub twin_reverse : (faces : Faces) (d e : ℕ) → IsTwin faces d e → is_reverse faces d e ≡ true
twin_reverse faces d e is = and_from _ _ (eq-eqb _ _ is.1) (eq-eqb _ _ is.2)

-- With each edge once, the twin is that dart that has the ends exchanged.
pub twin_found : (faces : Faces) → HasEdgesOnce faces → (d e : ℕ) → IsTwin faces d e → twin_of faces d ≡ Some e
twin_found faces once d e is = find_one (is_reverse faces d) 0 (darts faces) e (omega arith) (omega (arith, is.0))
    (twin_reverse faces d e is) (search rules)

pub twin_none : (faces : Faces) (d : ℕ) → ((e : ℕ) → ¬ IsTwin faces d e) → twin_of faces d ≡ None
twin_none faces d none = search (rules, find_none)

-- What is told to be the twin has the ends exchanged.
pub twin_is : (faces : Faces) (d e : ℕ) → twin_of faces d ≡ Some e → IsTwin faces d e
twin_is faces d e t = search (rules, find_passes)

-- The half edges of a manifold list are those of a manifold of quads.

-- Opposite corners of a face differ.
opposite_differ : (faces : Faces) → IsRepeatFree faces → (d : ℕ) → d < darts faces
    → from_of faces d ≢ from_of faces (next_of (next_of d))
opposite_differ faces free d l same =
    let over = λ (i : ℕ) (e : next_of (next_of d) % 4 ≡ i). ap (λ f. corner faces f (next_of (next_of d) % 4))
    (next_face (next_of d) ∙ next_face d) ∙ ap (corner faces (d / 4)) e in
    elim (cases_lt (d % 4) 2) [
      | inl b ↦ free (d / 4) (d % 4) (d % 4 + 2) (omega arith) (omega arith) (omega arith)
          (same ∙ over (d % 4 + 2) ((two_on d).0 b))
      | inr b ↦ free (d / 4) (d % 4 - 2) (d % 4) (omega arith) (omega arith) (omega arith)
          (sym (over (d % 4 - 2) ((two_on d).1 b)) ∙ sym same)
    ]

-- A chain of neighbours is made of turns.
chain_turns : (faces : Faces) → HasEdgesOnce faces → (d e n : ℕ) → d < darts faces → Chain faces d e n
    → (k : ℕ) × Turns (half_edges faces) d e k
chain_turns faces once d e zero l c = (0, c)
chain_turns faces once d e (suc n) l c =
    let t = chain_turns faces once d c.0 n l c.1 in
    elim (neighbour_step faces once c.0 e (chain_low faces d c.0 n l c.1) c.2 c.3 c.4) [
      | inl q ↦ (t.0, subst (λ (x : ℕ). Turns (half_edges faces) d x t.0) q t.1)
      | inr s ↦ (suc t.0, (c.0, t.1, c.2, turned c.0 s.0 s.1))
    ]
  where
    turned : (b : ℕ) (left : Bool) → Step faces left b e → AreTurned (half_edges faces) b e
    turned b true s = inl (twin_found faces once (prev_of b) e s)
    turned b false s = inr (twin_found faces once (prev_of e) b s)

pub manifold_law : ManifoldLaw
manifold_law faces m = record {
  next_low = next_of_low faces;
  prev_low = prev_of_low faces;
  prev_next = prev_of-next_of;
  next_prev = next_of-prev_of;
  four_sides = grind (arith, nat_tests);
  corners_differ = λ d l. (ends_differ faces m.repeat_free d l, opposite_differ faces m.repeat_free d l);
  twin_low = λ d e l t. (twin_is faces d e t).0;
  twin_twin = λ d e l t. let s = twin_is faces d e t in twin_found faces m.edges_once e d (l, sym s.2, sym s.1);
  twin_ends = λ d e l t. let s = twin_is faces d e t in (s.1, s.2);
  twin_found = λ d e l h a b. twin_found faces m.edges_once d e (h, a, b);
  one_fan = λ d e l h s. let c = m.one_fan (from_of faces d) d e l h refl (sym s) in
      chain_turns faces m.edges_once d e c.0 l c.1;
}
