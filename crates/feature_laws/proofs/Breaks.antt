-- Marked edges at a vertex: a line goes straight on there, or it begins. A trail leads to each marked dart.
use Rattle.std.proofs.Common.{rules, ◌≡◌, ◌⊎◌, ℕ, ◌<◌, ◌≤◌, Bool, true, false, not, ◌&&◌, ◌||◌, List, Option, Some}
use Rattle.std.proofs.Common.{None, is_some, sym, ap, ◌∙◌, refl, inl, inr, arith, zero, suc, ltb}
use Rattle.std.proofs.lemmas.Bool.{cases_Bool, or_left, or_right, and_from, and_parts, not_from_false}
use Rattle.std.proofs.lemmas.Bool.{false≢true, false_from_ne_true, cases_lt, cases_eq, le-ltb}
use Rattle.{std.proofs.lemmas.Option.same_Some, def_runs.specs.Runs.is_passed, def_runs.specs.Runs.follower}
use Rattle.def_mesh.specs.Darts.{darts, from_of, to_of, next_of, prev_of, twin_of, straight_of}
use Rattle.def_mesh.specs.{Faces.Faces, Manifold.IsManifold, Vertices.faces_at, Vertices.fan_of, Kinds.is_inner}
use Rattle.def_mesh.specs.{Kinds.is_regular, Components.seeds, Components.is_start, HalfEdges.HalfEdges}
use Rattle.def_mesh.specs.{HalfEdges.IsQuadManifold, HalfEdges.half_edges}
use Rattle.def_cut.specs.{Cuts.IsCross, Cuts.HasCross, FullCut.is_on, Motion.is_among, Steps.or_zero, Trails.IsStraight}
use Rattle.def_cut.specs.{Trails.Trail}
use Rattle.def_feature.specs.Marks.{AreMarks, goes_through, is_crossed, is_break, goes_round}
use Rattle.{def_feature.specs.Beside.is_turn, def_feature.specs.Marked.is_origin, motion_laws.proofs.Bits.rotated}
use Rattle.cut_laws.proofs.Crosses.{at_a, both_twins, low_a, low_b, low_c, one_of_four}
use Rattle.cut_laws.proofs.{Folds.turn_from, Folds.turn_low, Pigeon.comes_back}
use Rattle.face_laws.proofs.FullCuts.{regular_cross, cross_inner, cross_regular}
use Rattle.motion_laws.proofs.Among.{any_at, any_where, in_filter, from_filter, among_range, range_among}
use Rattle.{std.specs.Prelude.option_map, mesh_laws.proofs.Chains.manifold_law, site_laws.proofs.Sources.three_faces}

-- What stands in the fan of a vertex.
pub in_fan : (faces : Faces) (v d : ℕ) → d < darts faces → from_of faces d ≡ v → is_among d (fan_of faces v) ≡ true
in_fan faces v d l at = search (rules, in_filter, among_range)

pub from_fan : (faces : Faces) (v d : ℕ) → is_among d (fan_of faces v) ≡ true → (d < darts faces)
    × (from_of faces d ≡ v)
from_fan faces v d m = search (rules, from_filter, range_among)

-- The edge of a dart is marked or has one dart: a line that comes there begins or ends.
abbrev pub is_held : (faces : Faces) (marks : List Bool) (d : ℕ) → Bool
is_held faces marks d = is_on marks d || not (is_some (twin_of faces d))

abbrev pub is_held_after : (faces : Faces) (marks : List Bool) (twin : Option ℕ) → Bool
is_held_after faces marks None = false
is_held_after faces marks (Some t) = is_held faces marks (next_of t)

-- A line may begin with d: it is an origin, or it is marked and so are the edges beside it.
abbrev pub begins : (faces : Faces) (marks : List Bool) (d : ℕ) → Bool
begins faces marks d = is_origin faces marks d ||
    (is_on marks d && (is_held faces marks (prev_of d) && is_held_after faces marks (twin_of faces d)))

-- The dart that leads straight to d.
abbrev pub back : (faces : Faces) (d : ℕ) → ℕ
back faces d = prev_of (or_zero (twin_of faces (prev_of d)))

-- A marked dart leads straight to d.
pub record GoesBack (faces : Faces) (marks : List Bool) (d : ℕ) : Type 0 where
  pub low : back faces d < darts faces
  pub on : is_on marks (back faces d) ≡ true
  pub follows : follower faces (back faces d) ≡ Some d
  pub straight : IsStraight (half_edges faces) (back faces d) d
  pub cross : HasCross (half_edges faces) d
  pub passed : is_passed faces (from_of faces d) ≡ true

module _ (faces : Faces) (m : IsManifold faces) (marks : List Bool) (marked : AreMarks faces marks) where
  abbrev mesh : HalfEdges
  mesh = half_edges faces

  abbrev laws : IsQuadManifold (half_edges faces)
  laws = manifold_law faces m

  -- A marked dart has a twin.
  pub twin_on : (d : ℕ) → d < darts faces → is_on marks d ≡ true → (t : ℕ) × (twin_of faces d ≡ Some t)
  twin_on d l on = search rules

  -- A cross lies at a passed vertex.
  pub cross_passed : (d : ℕ) → d < darts faces → HasCross (half_edges faces) d
      → is_passed faces (from_of faces d) ≡ true
  cross_passed d l x = and_from _ _ (cross_inner faces laws d l x) (cross_regular faces laws d l x)

  -- At a break there is a cross.
  pub break_cross : (d : ℕ) → d < darts faces → is_break faces marks (from_of faces d) ≡ true
      → HasCross (half_edges faces) d
  break_cross d l y =
      let passed = and_parts (is_inner faces (from_of faces d)) (is_regular faces (from_of faces d))
      (and_parts (is_passed faces (from_of faces d)) _ y).0 in
      regular_cross faces laws d l passed.0 passed.1

  -- The line over a dart of a cross goes through where the opposite one is marked too.
  through_is : (x a b c : ℕ) → x < darts faces → IsCross mesh x a b c
      → goes_through faces marks (twin_of faces x) ≡ (is_on marks x && is_on marks b)
  through_is x a b c l k =
      let over = laws.twin_twin (prev_of c) x (laws.prev_low c (low_c laws x a b c l k)) k.last in
      let ahead : straight_of faces (prev_of c) ≡ Some b = ap (λ y. option_map next_of (twin_of faces y))
      (laws.next_prev c) ∙ (ap (option_map next_of) (laws.twin_twin (prev_of b) c
      (laws.prev_low b (low_b laws x a b c l k)) k.third) ∙ ap Some (laws.next_prev b)) in
      search rules

  -- At a cross where d is marked, the opposite edge is marked, or both beside it are, or lines break there.
  pub two_ways : (d a b c : ℕ) → d < darts faces → is_on marks d ≡ true → IsCross (half_edges faces) d a b c
      → (is_on marks b ≡ true) ⊎ (((is_on marks a ≡ true) × (is_on marks c ≡ true))
      ⊎ (is_break faces marks (from_of faces d) ≡ true))
  two_ways d a b c l on k =
      let v = from_of faces d in
      let la = low_a laws d a b c l k in
      let lb = low_b laws d a b c l k in
      let k1 = rotated mesh laws d a b c l k in
      let k2 = rotated mesh laws a b c d la k1 in
      let k3 = rotated mesh laws b c d a lb k2 in
      let through : (x e f : ℕ) → x ≡ e → goes_through faces marks (twin_of faces e) ≡ (is_on marks e && is_on marks f)
      → goes_through faces marks (twin_of faces x) ≡ true → (is_on marks e ≡ true) × (is_on marks f ≡ true) =
      λ x e f s is y. and_parts _ _ (sym (ap (λ x. goes_through faces marks (twin_of faces x)) s ∙ is) ∙ y) in
      let not_through : is_on marks b ≡ false → (is_on marks a && is_on marks c) ≡ false → (e : ℕ)
      → (e ≡ d) ⊎ ((e ≡ a) ⊎ ((e ≡ b) ⊎ (e ≡ c))) → goes_through faces marks (twin_of faces e) ≡ true → ⊥ =
      λ off side e s y. elim s [
        | inl s ↦ false≢true (sym off ∙ (through e d b s (through_is d a b c l k) y).1)
        | inr (inl s) ↦ search (rules, through_is)
        | inr (inr (inl s)) ↦ false≢true (sym off ∙ (through e b d s (through_is b c d a lb k2) y).0)
        | inr (inr (inr s)) ↦
            let p = through e c a s (through_is c d a b (low_c laws d a b c l k) k3) y in
            false≢true (sym side ∙ and_from _ _ p.1 p.0)
      ] in
      let touched = any_at (is_on marks) d (fan_of faces v) (in_fan faces v d l refl) on in
      elim (cases_Bool (is_on marks b)) [
        | inl y ↦ inl y
        | inr off ↦ elim (cases_Bool (is_on marks a && is_on marks c)) [
          | inl y ↦ inr (inl (and_parts _ _ y))
          | inr side ↦
              let none : is_crossed faces marks (from_of faces d) ≡ false = false_from_ne_true _ (λ y.
              let found = any_where (λ e. goes_through faces marks (twin_of faces e)) (fan_of faces v) y in
              let f = from_fan faces v found.0 found.1 in
              not_through off side found.0 (one_of_four laws d a b c l k found.0
              (record { low = f.0; at = f.1 })) found.2) in
              search (rules, cross_passed)
        ]
      ]

  -- At a break each dart with a twin is an origin.
  pub break_origin : (d t : ℕ) → twin_of faces d ≡ Some t → is_break faces marks (from_of faces d) ≡ true
      → is_origin faces marks d ≡ true
  break_origin d t w y = or_right (is_start faces (seeds faces) d) _ (and_from _ _ (ap is_some w) y)

  -- So a cut that has each edge at a break whose dart is an origin turns there.
  pub break_turns : (cut : List Bool) → ((e t : ℕ) → e < darts faces → twin_of faces e ≡ Some t → is_on cut t
      ≡ is_on cut e) → ((e : ℕ) → e < darts faces → is_origin faces marks e ≡ true → is_on cut e ≡ true) → (d : ℕ)
      → d < darts faces → is_break faces marks (from_of faces d) ≡ true → is_turn faces cut (from_of faces d) ≡ true
  break_turns cut alike on d l y =
      let (a, b, c, k) = break_cross d l y in
      let t = (both_twins laws d a b c l k d (record { low = l; at = refl })).1 in
      let back = laws.prev_low d l in
      let la = low_a laws d a b c l k in
      let on_a = on a la (break_origin a _ (laws.twin_twin (prev_of d) a back k.first)
      (ap (is_break faces marks) (at_a laws d a b c l k) ∙ y)) in
      any_at _ d _ (in_fan _ _ d l refl) (and_from _ _ (on d l (break_origin d _ t.1 y))
      (sym (alike (prev_of d) a back k.first) ∙ on_a))

  -- At a boundary vertex with more than two faces so is each dart with a twin, and at a singular one.
  reflex_origin : (d t : ℕ) → twin_of faces d ≡ Some t → is_inner faces (from_of faces d) ≡ false
      → 3 ≤ faces_at faces (from_of faces d) → is_origin faces marks d ≡ true
  reflex_origin d t w out three = search rules

  pub held_alone : (d : ℕ) → twin_of faces d ≡ None → is_held faces marks d ≡ true
  held_alone d w = or_right _ _ (ap (λ o. not (is_some o)) w)

  -- A line begins with a marked dart, or a marked dart leads straight to it.
  pub one_back : (d : ℕ) → d < darts faces → is_on marks d ≡ true → (begins faces marks d ≡ true)
      ⊎ GoesBack faces marks d
  one_back d l on = by_kind (twin_on d l on).0 (twin_on d l on).1
    where
      beside : (t : ℕ) → twin_of faces d ≡ Some t → is_held faces marks (prev_of d) ≡ true
          → is_held faces marks (next_of t) ≡ true → begins faces marks d ≡ true
      beside t w before after = search rules

      goes_back : (a b c : ℕ) → IsCross mesh d a b c → is_on marks b ≡ true → GoesBack faces marks d
      goes_back a b c k yb =
          let a_low = low_a laws d a b c l k in
          let is : back faces d ≡ prev_of a = ap (λ o. prev_of (or_zero o)) k.first in
          let a_twin = laws.twin_twin (prev_of d) a (laws.prev_low d l) k.first in
          let ahead : straight_of faces (prev_of a) ≡ Some d = ap (λ x. option_map next_of (twin_of faces x))
          (laws.next_prev a) ∙ (ap (option_map next_of) a_twin ∙ ap Some (laws.next_prev d)) in
          let passed = cross_passed d l (a, b, c, k) in
          let passed_there : is_passed faces (to_of faces (prev_of a)) ≡ true = ap (λ x. is_passed faces
          (from_of faces x)) (laws.next_prev a) ∙ (ap (is_passed faces) (at_a laws d a b c l k) ∙ passed) in
          record {
            low = rw is (laws.prev_low a a_low);
            on = ap (is_on marks) is ∙ (sym (marked.alike (prev_of a) b (laws.prev_low a a_low) k.second) ∙ yb);
            follows = search rules;
            straight = (
              prev_of d,
              ap (λ x. twin_of faces (next_of x)) is ∙ (ap (twin_of faces) (laws.next_prev a) ∙ a_twin),
              sym (laws.next_prev d),
            );
            cross = (a, b, c, k);
            passed = passed;
          }

      by_cross : (t : ℕ) → twin_of faces d ≡ Some t → (a b c : ℕ) → IsCross mesh d a b c
          → (begins faces marks d ≡ true) ⊎ GoesBack faces marks d
      by_cross t w a b c k = elim (two_ways d a b c l on k) [
        | inl yb ↦ inr (goes_back a b c k yb)
        | inr (inl both) ↦
            let over = laws.twin_twin (prev_of c) d (laws.prev_low c (low_c laws d a b c l k)) k.last in
            let after : next_of t ≡ c = ap next_of (same_Some t (prev_of c) (sym w ∙ over)) ∙ laws.next_prev c in
            inl (beside t w (search rules) (or_left _ _ (ap (is_on marks) after ∙ both.1)))
        | inr (inr y) ↦ inl (or_left _ _ (break_origin d t w y))
      ]

      -- Where the boundary has two faces, both edges beside d have one dart.
      on_rim : (t : ℕ) → twin_of faces d ≡ Some t → is_inner faces (from_of faces d) ≡ false → (o p : Option ℕ)
          → twin_of faces (prev_of d) ≡ o → twin_of faces (next_of t) ≡ p → begins faces marks d ≡ true
      on_rim t w out None None before after = beside t w (held_alone (prev_of d) before) (held_alone (next_of t) after)
      on_rim t w out (Some a) p before after =
          let at = turn_from laws d a l before in
          or_left _ _ (reflex_origin d t w out (rw (← at) (three_faces faces laws a (prev_of d) t
          (turn_low laws d a l before) (laws.twin_twin (prev_of d) a (laws.prev_low d l) before)
          (ap (twin_of faces) (laws.next_prev d) ∙ w) (ap (is_inner faces) at ∙ out))))
      on_rim t w out None (Some u) before after =
          or_left _ _ (reflex_origin d t w out (three_faces faces laws d t u l w after out))

      by_kind : (t : ℕ) → twin_of faces d ≡ Some t → (begins faces marks d ≡ true) ⊎ GoesBack faces marks d
      by_kind t w = elim (cases_Bool (is_inner faces (from_of faces d))) [
        | inr out ↦ inl (on_rim t w out (twin_of faces (prev_of d)) (twin_of faces (next_of t)) refl refl)
        | inl inner ↦ elim (cases_Bool (is_regular faces (from_of faces d))) [
          | inr off ↦ inl (or_left _ _ (or_left _ _ (or_left _ _ (and_from _ _ inner (not_from_false _ off)))))
          | inl regular ↦ let k = regular_cross faces laws d l inner regular in by_cross t w k.0 k.1 k.2 k.3
        ]
      ]

-- The dart n steps back.
abbrev pub backs : (faces : Faces) (d n : ℕ) → ℕ
backs faces d zero = d
backs faces d (suc n) = back faces (backs faces d n)

-- Of the first n + 1 values of f one is least.
least_below : (f : ℕ → ℕ) (n : ℕ) → (i : ℕ) × (i ≤ n) × ((j : ℕ) → j ≤ n → f i ≤ f j)
least_below f zero = (0, omega arith, λ j l. let e : j ≡ 0 = omega arith in omega (arith, ap f e))
least_below f (suc n) =
    let before = least_below f n in
    elim (cases_lt (f (suc n)) (f before.0)) [
      | inl less ↦ (suc n, omega arith, search rules)
      | inr more ↦ (before.0, omega (arith, before.1), search rules)
    ]

module _ (faces : Faces) (m : IsManifold faces) (marks : List Bool) (marked : AreMarks faces marks) where
  -- A trail leads to d.
  abbrev pub Led : (d : ℕ) → Type 0
  Led d = (k : ℕ) × Trail (half_edges faces) (begins faces marks) (is_on marks) d k

  module _ (d : ℕ) (low : d < darts faces) (on : is_on marks d ≡ true) where
    -- The dart k steps back, and whether one goes back n times.
    abbrev at : ℕ → ℕ
    at k = backs faces d k

    abbrev Far : (n : ℕ) → Type 0
    Far n = (k : ℕ) → k < n → GoesBack faces marks (backs faces d k)

    -- After so many steps back one is at a marked dart.
    back_low : (n k : ℕ) → Far n → k ≤ n → (at k < darts faces) × (is_on marks (at k) ≡ true)
    back_low n zero f l = (low, on)
    back_low n (suc k) f l = let b = f k (omega arith) in (b.low, b.on)

    -- A trail to the dart n steps back leads on to d.
    led_on : (n : ℕ) → Far n → Led (at n) → Led d
    led_on zero f t = t
    led_on (suc n) f t =
        let b = f n (omega arith) in
        led_on n (λ k l. f k (omega arith)) (suc t.0, (back faces (at n), t.1, b.low, b.on, b.straight, b.cross))

    far : (n : ℕ) → Led d ⊎ Far n
    far zero = inr (λ k l. absurd (omega arith))
    far (suc n) = elim (far n) [
      | inl t ↦ inl t
      | inr f ↦
          let a = back_low n n f (omega arith) in
          elim (one_back faces m marks marked (at n) a.0 a.1) [
            | inl b ↦ inl (led_on n f (0, b))
            | inr b ↦ inr (λ k l. elim (cases_eq k n) [ inl e ↦ rw e b | inr ne ↦ f k (omega arith) ])
          ]
    ]

    -- A line that goes back without end comes round.
    module _ (f : Far (darts faces)) where
      come : (k : ℕ) × (k < darts faces) × (backs faces d (suc k) ≡ d)
      come = comes_back (darts faces) (backs faces d) (λ k l. (back_low (darts faces) k f l).0) (search rules)

      -- The least vertex of the round.
      least : (i : ℕ) × (i ≤ come.0) × ((j : ℕ) → j ≤ come.0 → from_of faces (at i) ≤ from_of faces (at j))
      least = least_below (λ k. from_of faces (at k)) come.0

      abbrev first : ℕ
      first = backs faces d least.0

      goes : (i : ℕ) → i ≤ come.0 → GoesBack faces marks (at i)
      goes i l = f i (omega (arith, l, come.1))

      -- Straight on from each dart of the round is one of it.
      onward : (i : ℕ) → i ≤ come.0 → (j : ℕ) × (j ≤ come.0) × (follower faces (at i) ≡ Some (at j))
      onward zero l = (come.0, omega arith, ap (follower faces) (sym come.2) ∙ (goes come.0 (omega arith)).follows)
      onward (suc i) l = (i, omega (arith, l), (goes i (omega (arith, l))).follows)

      round : (n i : ℕ) → i ≤ come.0 → goes_round faces marks (from_of faces first) n (at i) ≡ true
      round zero i l = refl
      round (suc n) i l =
          let here = and_from (is_on marks (at i)) (not (ltb (from_of faces (at i)) (from_of faces first)))
          (back_low (darts faces) i f (omega (arith, l, come.1))).1 (not_from_false _ (le-ltb _ _ (least.2 i l))) in
          let next = onward i l in
          and_from _ _ here (on_from (follower faces (at i)) next.0 next.2 (round n next.0 next.1))
        where
          on_from : (o : Option ℕ) → (j : ℕ) → o ≡ Some (backs faces d j)
              → goes_round faces marks (from_of faces (backs faces d least.0)) n (backs faces d j) ≡ true
              → elim o as (λ o. Bool)
              [ None ↦ false | Some e ↦ goes_round faces marks (from_of faces (backs faces d least.0)) n e ] ≡ true
          on_from o j is y = rw is y

      -- So the line breaks there.
      led_round : Led d
      led_round =
          let v = from_of faces first in
          let there = back_low _ least.0 f (omega (arith, least.1, come.1)) in
          let ring = any_at _ first _ (in_fan faces v _ there.0 refl) (round (darts faces) _ least.1) in
          let breaks : is_break faces marks (from_of faces (backs faces d least.0)) ≡ true = and_from _ _ (goes least.0
          least.1).passed (or_right _ _ ring) in
          let t = twin_on faces m _ marked first there.0 there.1 in
          led_on _ (λ k l. goes k (omega (arith, l, least.1)))
          (0, or_left _ _ (break_origin faces m _ marked first _ t.1 breaks))

    pub marked_trail : Led d
    marked_trail = elim (far (darts faces)) [ inl t ↦ t | inr f ↦ led_round f ]
