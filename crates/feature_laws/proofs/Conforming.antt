-- The conforming cut is a full cut that keeps marked lines: it is what a motion leaves in which nobody rides any more.
use Rattle.std.proofs.Common.{rules, ◌≡◌, ℕ, zero, suc, ◌<◌, Bool, true, not, eqb, ◌&&◌, List, [], ◌∷◌, length, Option}
use Rattle.std.proofs.Common.{Some, None, is_some, sym, ap, ◌∙◌, refl, inl, inr, arith}
use Rattle.std.proofs.lemmas.Bool.{cond-true, eq-eqb, eqb-true, or_left, or_right, or_cases, and_from, and_parts}
use Rattle.std.proofs.lemmas.Bool.{false≢true, cases_Bool}
use Rattle.std.proofs.{lemmas.Option.same_Some, lemmas.List.length-map, lemmas.List.FromFn.length-range_with_len}
use Rattle.std.proofs.{lemmas.List.FromFn.get_or-map-range_with_len}
use Rattle.def_mesh.specs.Darts.{darts, all_darts, from_of, to_of, next_of, prev_of, twin_of, straight_of}
use Rattle.def_mesh.specs.{Faces.Faces, Manifold.IsManifold, Kinds.is_end, Kinds.is_inner, Kinds.is_regular}
use Rattle.def_mesh.specs.{Kinds.is_singular, HalfEdges.HalfEdges, HalfEdges.IsQuadManifold, HalfEdges.half_edges}
use Rattle.def_cut.specs.{Cuts.IsCross, Cuts.IsCut, FullCut.is_on, Motion.State, Motion.ridden, Motion.is_among}
use Rattle.def_cut.specs.{Trails.IsStraight, Trails.Trail, Traced.terrain_of, Traced.is_cut}
use Rattle.def_feature.specs.Conforming.{is_source, Line, IsLed, IsLined, IsConforming, ConformingLaw, StraightLaw}
use Rattle.def_feature.specs.{Beside.IsCutBeside, Marks.AreMarks, Marked.is_origin, Marked.marked_first}
use Rattle.def_feature.specs.{Marked.marked_last, Marked.marked_cut, Laws.KeepsMarks, Laws.MarkedLaw}
use Rattle.cut_laws.proofs.Crosses.{low_b, low_c, at_b, at_c, both_twins}
use Rattle.face_laws.proofs.FullCuts.{inner_twin, regular_cross, full_cut_law}
use Rattle.motion_laws.proofs.{Among.any_at, Among.any_where, Among.among_range, Among.range_among}
use Rattle.motion_laws.proofs.{Onward.full_cut, Onward.nobody_runs, Onward.end_reached, Steps.trail_more}
use Rattle.motion_laws.proofs.{Bits.IsCrossedAt, Bits.IsReachedFrom, Bits.crossed_at, Bits.IsSoon}
use Rattle.feature_laws.proofs.Breaks.{begins, break_turns, cross_passed, twin_on, marked_trail}
use Rattle.feature_laws.proofs.First.{all_origins, is_first, origin_of, marked_begin}
use Rattle.{std.specs.Prelude.option_map, std.specs.List.list_any, sum_laws.proofs.Tests.same_test}
use Rattle.{def_runs.specs.Runs.is_passed, def_runs.specs.Runs.follower, mesh_laws.proofs.Chains.manifold_law}
use Rattle.{mesh_laws.proofs.Flood.all_below, site_laws.proofs.Laws.same_cut, site_laws.proofs.Sites.terrain}

-- What is marked is there.
pub mark_low : (marks : List Bool) (d : ℕ) → is_on marks d ≡ true → d < length marks
mark_low [] d on = absurd (false≢true on)
mark_low (b ∷ bs) zero on = omega arith
mark_low (b ∷ bs) (suc d) on = let l = mark_low bs d on in omega arith

-- What follows c lies straight on, over a vertex that is passed.
pub follows : (faces : Faces) (c d : ℕ) → follower faces c ≡ Some d → (is_passed faces (to_of faces c) ≡ true)
    × IsStraight (half_edges faces) c d
follows faces c d e = elim (cases_Bool (is_passed faces (to_of faces c))) [
  | inr off ↦ absurd cc
  | inl on ↦ search rules
]

module _ (faces : Faces) (m : IsManifold faces) (marks : List Bool) (marked : AreMarks faces marks) (cut : List Bool)
    (conform : IsConforming faces marks cut) where
  abbrev mesh : HalfEdges
  mesh = half_edges faces

  abbrev laws : IsQuadManifold (half_edges faces)
  laws = manifold_law faces m

  abbrev HasTwin : ℕ → Type 0
  HasTwin d = (t : ℕ) × (twin_of faces d ≡ Some t)

  to_cut : (d : ℕ) → d < darts faces → IsLined faces marks d → is_on cut d ≡ true
  to_cut d l y = (conform.lined d l).1 y

  some_there : (o : Option ℕ) → is_some o ≡ true → (t : ℕ) × (o ≡ Some t)
  some_there None e = absurd (false≢true e)
  some_there (Some t) e = (t, refl)

  alike : (d t : ℕ) → d < darts faces → twin_of faces d ≡ Some t → is_on cut t ≡ is_on cut d
  alike d t l w =
      let over : (x y : ℕ) → x < darts faces → twin_of faces x ≡ Some y → is_on cut x ≡ true → is_on cut y ≡ true =
      λ x y lx is on.
      let ly = laws.twin_low x y lx is in
      elim ((conform.lined x lx).0 on) [
        | inl none ↦ absurd cc
        | inr (inl led) ↦ to_cut y ly (inr (inr (x, laws.twin_twin x y lx is, led)))
        | inr (inr other) ↦ to_cut y ly (inr (inl (rw (same_Some y other.0 (sym is ∙ other.1)) other.2)))
      ] in
      same_test _ _ (over t d (laws.twin_low d t l w) (laws.twin_twin d t l w)) (over d t l w)

  -- A line goes on over a cross.
  straight : (x a b c : ℕ) → x < darts faces → IsCross mesh x a b c → is_on cut x ≡ true → is_on cut b ≡ true
  straight x a b c lx k on = by_line ((conform.lined x lx).0 on)
    where
      lb : b < darts faces
      lb = low_b laws x a b c lx k

      lc : c < darts faces
      lc = low_c laws x a b c lx k

      over : twin_of faces x ≡ Some (prev_of c)
      over = laws.twin_twin (prev_of c) x (laws.prev_low c lc) k.last

      -- From the other side the line leads straight to b.
      ahead : follower faces (prev_of c) ≡ Some b
      ahead = cond-true (is_passed faces (to_of faces (prev_of c))) (straight_of faces (prev_of c)) None
          (ap (λ y. is_passed faces (from_of faces y)) (laws.next_prev c)
          ∙ (ap (is_passed faces) (at_c laws x a b c lx k) ∙ cross_passed faces m marks marked x lx (a, b, c, k)))
          ∙ (ap (λ y. option_map next_of (twin_of faces y)) (laws.next_prev c) ∙ (ap (option_map next_of)
          (laws.twin_twin (prev_of b) c (laws.prev_low b lb) k.third) ∙ ap Some (laws.next_prev b)))

      on_from : IsLed faces marks (prev_of c) → is_on cut b ≡ true
      on_from led = to_cut b lb (inr (inl (suc led.0, (prev_of c, led.1, laws.prev_low c lc, ahead))))

      by_line : IsLined faces marks x → is_on cut b ≡ true
      by_line (inl none) = let clash : None ≡ Some (prev_of c) = sym none ∙ over in absurd cc
      by_line (inr (inl (zero, y))) = elim (or_cases (is_origin faces marks x) _ y) [
        | inl y ↦
            let at = at_b laws x a b c lx k in
            let t = (both_twins laws x a b c lx k b (record { low = lb; at = at })).1 in
            to_cut b lb (inr (inl (0, or_left _ _ (all_origins faces m marks marked x b t.0 lx lb y at t.1))))
        | inr y ↦ on_from (0, or_right (is_origin faces marks (prev_of c)) _ (marked.alike x (prev_of c) lx over ∙ y))
      ]
      by_line (inr (inl (suc n, (d, line, ld, f)))) =
          let s = (follows faces d x f).1 in
          let first = same_Some a (next_of d) (sym k.first ∙ (ap (twin_of faces) (ap prev_of s.2 ∙ laws.prev_next s.0)
          ∙ laws.twin_twin (next_of d) s.0 (laws.next_low d ld) s.1)) in
          let second : twin_of faces d ≡ Some b =
          ap (twin_of faces) (sym (ap prev_of first ∙ laws.prev_next d)) ∙ k.second in
          to_cut b lb (inr (inr (d, laws.twin_twin d b ld second, (n, line))))
      by_line (inr (inr (t, w, led))) = on_from (rw (same_Some (prev_of c) t (sym over ∙ w)) led)

  -- The state in which these lines are covered and nobody rides.
  abbrev covers : (d : ℕ) → Bool
  covers d = is_on cut d && is_some (twin_of faces d)

  abbrev stands : (v : ℕ) → Bool
  stands v = list_any (λ d. covers d && is_end faces v d) (all_darts faces)

  abbrev ended : State
  ended = record { riders = []; stood = stands; covered = covers }

  abbrev IsTrailed : ℕ → Type 0
  IsTrailed d = (k : ℕ) × Trail (half_edges faces) (begins faces marks) covers d k

  covered_led : (d : ℕ) → d < darts faces → HasTwin d → IsLed faces marks d → covers d ≡ true
  covered_led d l t led = and_from _ _ (to_cut d l (inr (inl led))) (ap is_some t.1)

  has_twin : (d : ℕ) → covers d ≡ true → HasTwin d
  has_twin d y = some_there (twin_of faces d) (and_parts (is_on cut d) _ y).1

  covers_alike : (d t : ℕ) → d < darts faces → twin_of faces d ≡ Some t → covers t ≡ covers d
  covers_alike d t l w = ap (λ b. b && is_some (twin_of faces t)) (alike d t l w)
      ∙ ap (λ o. is_on cut d && is_some o) (laws.twin_twin d t l w) ∙ sym (ap (λ o. is_on cut d && is_some o) w)

  stands_end : (v d : ℕ) → d < darts faces → covers d ≡ true → is_end faces v d ≡ true → stands v ≡ true
  stands_end v d l y e = any_at _ d (all_darts faces) (among_range 0 _ d (omega arith) (omega arith)) (and_from _ _ y e)

  source_covered : (d : ℕ) → d < darts faces → is_source faces marks d ≡ true → covers d ≡ true
  source_covered d l y = elim (or_cases (is_origin faces marks d) _ y) [
    | inl o ↦ covered_led d l (search (rules, inner_twin)) (0, y)
    | inr k ↦ covered_led d l (twin_on faces m marks marked d l k) (0, y)
  ]

  mark_covered : (d : ℕ) → is_on marks d ≡ true → covers d ≡ true
  mark_covered d on = source_covered d (omega (arith, mark_low marks d on)) (or_right (is_origin faces marks d) _ on)

  -- A line is a trail.
  line_trail : (d n : ℕ) → d < darts faces → Line faces marks d n → IsTrailed d
  line_trail d zero l y = elim (or_cases (is_origin faces marks d) _ y) [
    | inl o ↦ (0, or_left _ _ o)
    | inr on ↦
        let t = marked_trail faces m marks marked d l on in
        (t.0, trail_more mesh (begins faces marks) (is_on marks) covers mark_covered d t.0 t.1)
  ]
  line_trail d (suc n) l (c, line, lc, f) =
      let trail = line_trail c n lc line in
      let on = follows faces c d f in
      let at : from_of faces d ≡ to_of faces c =
      ap (from_of faces) on.1.2 ∙ (laws.twin_ends (next_of c) on.1.0 (laws.next_low c lc) on.1.1).1 in
      let both = and_parts (is_inner faces (to_of faces c)) (is_regular faces (to_of faces c)) on.0 in (
        suc trail.0,
        (
          c,
          trail.1,
          lc,
          covered_led c lc (inner_twin faces (to_of faces c) both.0 c lc (inr refl)) (n, line),
          on.1,
          regular_cross faces laws d l (ap (is_inner faces) at ∙ both.0) (ap (is_regular faces) at ∙ both.1),
        ),
      )

  reached : IsReachedFrom (terrain_of faces) (begins faces marks) (marked_first faces marks) ended
  reached = record {
    apart = tt;
    low = λ d n. absurd (false≢true n);
    left = λ d n. absurd (false≢true n);
    alike = covers_alike;
    ends = λ d l y. (
      inl (stands_end (from_of faces d) d l y (or_left (eqb (from_of faces d) (from_of faces d)) _ (eq-eqb _ _ refl))),
      inl (stands_end (to_of faces d) d l y (or_right (eqb (from_of faces d) (to_of faces d)) _ (eq-eqb _ _ refl))),
    );
    kept = λ d k. inl (elim k [
      | inl on ↦ mark_covered d on
      | inr n ↦
          let o = origin_of faces marks d (is_first faces m marks marked d n) in
          source_covered d o.0 (or_left _ _ o.1)
    ]);
    trails = λ d n. absurd (false≢true n);
    tracked = λ d l y. elim ((conform.lined d l).0 (and_parts _ _ y).0) [
      | inl none ↦ let clash : None ≡ Some (has_twin d y).0 = sym none ∙ (has_twin d y).1 in absurd cc
      | inr (inl led) ↦ let t = line_trail d led.0 l led.1 in (t.0, inl t.1)
      | inr (inr other) ↦
          let r = line_trail other.0 other.2.0 (laws.twin_low d other.0 l other.1) other.2.1 in
          (r.0, inr (other.0, other.1, r.1))
    ];
    -- Where a covered edge ends two opposite ones do.
    through = λ d l y inner regular.
        let from_there : (x : ℕ) → x < darts faces → covers x ≡ true → from_of faces x ≡ from_of faces d
        → IsCrossedAt (terrain_of faces) ended (from_of faces d) = λ x lx on at.
        let k = (terrain faces m).crossed x lx (ap (λ v. not (is_inner faces v)) at ∙ inner)
        (ap (is_singular faces) at ∙ regular) in
        let t = (both_twins laws x k.0 k.1 k.2 lx k.3 k.1
        (record { low = low_b laws x k.0 k.1 k.2 lx k.3; at = at_b laws x k.0 k.1 k.2 lx k.3 })).1 in
        crossed_at lx at k.3 (inl on)
        (inl (and_from _ _ (straight x k.0 k.1 k.2 lx k.3 (and_parts _ _ on).0) (ap is_some t.1))) in
        let (x, n, there) = any_where (λ x. covers x && is_end faces (from_of faces d) x) (all_darts faces) y in
        let p = and_parts (covers x) (is_end faces (from_of faces d) x) there in
        let lx : x < darts faces = omega (arith, (range_among 0 (darts faces) x n).1) in
        elim (or_cases (eqb (from_of faces x) (from_of faces d)) _ p.1) [
          | inl e ↦ from_there x lx p.0 (eqb-true _ _ e)
          | inr e ↦
              let t = has_twin x p.0 in
              from_there t.0 (laws.twin_low x t.0 lx t.1) (covers_alike x t.0 lx t.1 ∙ p.0)
              ((laws.twin_ends x t.0 lx t.1).0 ∙ eqb-true _ _ e)
        ];
  }

  same : (d : ℕ) → d < darts faces → is_on cut d ≡ is_cut (terrain_of faces) ended d
  same d l = search rules

  conforms : IsCutBeside faces marks cut
  conforms = record {
    full =
        let made = full_cut _ (terrain _ m) _ _ (marked_begin _ m _ marked) _ reached refl in
        (full_cut_law faces cut m).1 (conform.long, same_cut _ laws _ _ same made);
    kept = λ d l on. to_cut d l (inr (inl (0, or_right _ _ on)));
    turned = break_turns _ m _ marked _ alike (λ e l o. to_cut e l (inr (inl (0, or_left _ _ o))));
  }

pub conforming_law : ConformingLaw
conforming_law faces marks cut m marked conform = conforms faces m marks marked cut conform

pub straight_law : StraightLaw
straight_law faces marks cut m marked conform x a b c l k on = straight faces m marks marked cut conform x a b c l k on

-- The motion beside marks ends in a full cut that has every marked edge.

-- A mark of the cut.
pub mark_is : (faces : Faces) (marks : List Bool) (d : ℕ) → d < darts faces
    → is_on (marked_cut faces marks) d ≡ is_cut (terrain_of faces) (marked_last faces marks) d
mark_is faces marks d l = search (rules, get_or-map-range_with_len)

module _ (faces : Faces) (m : IsManifold faces) (marks : List Bool) (marked : AreMarks faces marks) where
  none : ridden (marked_last faces marks).riders ≡ []
  none = nobody_runs _ (terrain _ m) _ _ (marked_begin _ m _ marked) _ (all_below _)

  last : IsReachedFrom (terrain_of faces) (begins faces marks) (marked_first faces marks) (marked_last faces marks)
  last = search (rules, end_reached, terrain, marked_begin, all_below)

  cut : IsCut (half_edges faces) (is_cut (terrain_of faces) (marked_last faces marks))
  cut = full_cut _ (terrain _ m) _ _ (marked_begin _ m _ marked) _ last none

  long : length (marked_cut faces marks) ≡ darts faces
  long = length-map (all_darts faces) (is_cut (terrain_of faces) (marked_last faces marks)) ∙ length-range_with_len 0 _

  covered : (d : ℕ) → IsSoon (marked_last faces marks) d → (marked_last faces marks).covered d ≡ true
  covered d (inl c) = c
  covered d (inr n) = absurd (false≢true (sym (ap (is_among d) none) ∙ n))

  -- What is covered or ridden first is in the cut, so each origin is.
  pub soon_cut : (d : ℕ) → d < darts faces → IsSoon (marked_first faces marks) d
      → is_on (marked_cut faces marks) d ≡ true
  soon_cut d l k = mark_is faces marks d l ∙ or_left _ _ (covered d (last.kept d k))

  pub keeps_marks : KeepsMarks faces marks
  keeps_marks = record {
    rests = none;
    full = (full_cut_law faces (marked_cut faces marks) m).1 (
      long,
      same_cut _ (manifold_law faces m) _ _ (mark_is _ _) cut,
    );
    kept = λ d l on. soon_cut d l (inl on);
  }

pub marked_law : MarkedLaw
marked_law faces marks m marked = keeps_marks faces m marks marked
