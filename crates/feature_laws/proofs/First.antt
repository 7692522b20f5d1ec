-- The first state of the motion beside marks is one from which it comes to a full cut.
use Rattle.std.proofs.Common.{rules, ◌≡◌, ℕ, ◌<◌, Bool, true, false, not, eqb, ◌&&◌, List, map, Some, is_some, sym}
use Rattle.std.proofs.Common.{subst, ap, ◌∙◌, refl, inl, inr, arith, zero, suc, ◌||◌, replicate}
use Rattle.std.proofs.lemmas.Bool.{cases_Bool, eq-eqb, eqb-true, or_left, or_right, or_cases, and_from, and_parts}
use Rattle.std.proofs.lemmas.Bool.{false≢true, false_from_ne_true}
use Rattle.std.{proofs.lemmas.List.length-replicate, specs.List.list_any, specs.List.filter}
use Rattle.def_mesh.specs.Darts.{darts, all_darts, from_of, to_of, next_of, twin_of}
use Rattle.def_mesh.specs.{Faces.Faces, Manifold.IsManifold, Kinds.is_end, Kinds.is_inner, Kinds.is_singular}
use Rattle.def_mesh.specs.{Components.seeds, Components.is_start, Components.start_darts, HalfEdges.HalfEdges}
use Rattle.def_mesh.specs.{HalfEdges.IsQuadManifold, HalfEdges.half_edges, Vertices.vertex_count}
use Rattle.def_cut.specs.Traced.{terrain_of, IsGraphOf, finish, is_cut, last_state, traced_marks}
use Rattle.def_cut.specs.{Cuts.HasCross, FullCut.is_on, Motion.ridden, Motion.is_among, Motion.begun, Motion.State}
use Rattle.def_cut.specs.{Motion.start, declared.graph.Graph.Graph}
use Rattle.def_feature.specs.Marks.{AreMarks, is_break, goes_round}
use Rattle.def_feature.specs.Marked.{is_origin, marked_starts, marked_first, IsMarkedGraph, marked_last, marked_cut}
use Rattle.cut_laws.proofs.Crosses.{low_a, low_b, at_a, at_b, both_twins}
use Rattle.motion_laws.proofs.Among.{AreApart, any_at, any_where, in_filter, from_filter, apart_filter, among_range}
use Rattle.motion_laws.proofs.Among.{range_among, range_apart}
use Rattle.motion_laws.proofs.{Bits.IsFirst, Bits.IsSoon, Bits.IsCrossedAt, Bits.crossed_at, Bits.rotated}
use Rattle.motion_laws.proofs.{Steps.ridden_begun, Steps.shut_before, Steps.shut_beside, Marks.none_on}
use Rattle.site_laws.proofs.{Sites.terrain, Sites.started, Sites.all_start, Sources.start_in, Sources.start_of}
use Rattle.site_laws.proofs.{Sources.found}
use Rattle.feature_laws.proofs.Breaks.{begins, twin_on, two_ways, marked_trail}
use Rattle.{mesh_laws.proofs.Chains.manifold_law}

-- Among the starts.
pub origin_in : (faces : Faces) (marks : List Bool) (d : ℕ) → d < darts faces → is_origin faces marks d ≡ true
    → is_on marks d ≡ false → is_among d (marked_starts faces marks) ≡ true
origin_in faces marks d l y off = search (rules, in_filter, among_range)

pub origin_of : (faces : Faces) (marks : List Bool) (d : ℕ) → is_among d (marked_starts faces marks) ≡ true
    → (d < darts faces) × (is_origin faces marks d ≡ true)
origin_of faces marks d n = search (rules, from_filter, range_among)

module _ (faces : Faces) (m : IsManifold faces) (marks : List Bool) (marked : AreMarks faces marks) where
  abbrev mesh : HalfEdges
  mesh = half_edges faces

  abbrev laws : IsQuadManifold (half_edges faces)
  laws = manifold_law faces m

  abbrev starts : List ℕ
  starts = marked_starts faces marks

  abbrev first : State
  first = marked_first faces marks

  abbrev IsCrossedFirst : ℕ → Type 0
  IsCrossedFirst v = IsCrossedAt (terrain_of faces) (marked_first faces marks) v

  pub is_first : (d : ℕ) → is_among d (ridden (map begun (marked_starts faces marks))) ≡ true
      → is_among d (marked_starts faces marks) ≡ true
  is_first d n = sym (ap (is_among d) (ridden_begun starts)) ∙ n

  -- An origin is marked, or a rider starts there.
  pub origin_soon : (d : ℕ) → d < darts faces → is_origin faces marks d ≡ true → IsSoon (marked_first faces marks) d
  origin_soon d l y = elim (cases_Bool (is_on marks d))
      [ inl on ↦ inl on | inr off ↦ inr (ap (is_among d) (ridden_begun starts) ∙ origin_in faces marks d l y off) ]

  -- Of the darts with a twin that leave one vertex all are origins or none.
  pub all_origins : (d e t : ℕ) → d < darts faces → e < darts faces → is_origin faces marks d ≡ true
      → from_of faces e ≡ from_of faces d → twin_of faces e ≡ Some t → is_origin faces marks e ≡ true
  all_origins d e t ld le y at w = elim (or_cases (is_start faces (seeds faces) d) _ y) [
    | inl s ↦ or_left _ _ (start_of faces e (all_start faces m d e t le (start_in faces d ld s) at w)).1
    | inr b ↦ or_right (is_start faces (seeds faces) e) _
        (and_from _ _ (ap is_some w) (ap (is_break faces marks) at ∙ (and_parts _ _ b).1))
  ]

  spread : (d : ℕ) → d < darts faces → is_origin faces marks d ≡ true → (e x : ℕ) → e < darts faces
      → from_of faces e ≡ from_of faces d → twin_of faces e ≡ Some x → IsSoon (marked_first faces marks) e
  spread d l y e x le at w = origin_soon e le (all_origins d e x l le y at w)

  -- At a cross where some dart is an origin, all are soon.
  by_origin : (v x : ℕ) → x < darts faces → from_of faces x ≡ v → HasCross mesh x → is_origin faces marks x ≡ true
      → IsCrossedFirst v
  by_origin v x l at (a, b, c, k) y =
      let lb = low_b laws x a b c l k in
      let b_at = at_b laws x a b c l k in
      let t = (both_twins laws x a b c l k b (record { low = lb; at = b_at })).1 in
      crossed_at l at k (origin_soon x l y) (origin_soon b lb (all_origins x b t.0 l lb y b_at t.1))

  -- At a cross where some dart is marked, two opposite edges are soon.
  by_mark : (v x : ℕ) → x < darts faces → from_of faces x ≡ v → HasCross mesh x → is_on marks x ≡ true
      → IsCrossedFirst v
  by_mark v x l at (a, b, c, k) on = elim (two_ways faces m marks marked x a b c l on k) [
    | inl yb ↦ crossed_at l at k (inl on) (inl yb)
    | inr (inl both) ↦ crossed_at (low_a laws x a b c l k) (at_a laws x a b c l k ∙ at)
        (rotated mesh laws x a b c l k) (inl both.0) (inl both.1)
    | inr (inr y) ↦ by_origin v x l at (a, b, c, k) (search rules)
  ]

  -- Both ends of a marked edge are known.
  stood_end : (v d : ℕ) → d < darts faces → is_on marks d ≡ true → is_end faces v d ≡ true → first.stood v ≡ true
  stood_end v d l on e = or_right _ _ (any_at _ d (all_darts faces) (among_range 0 (darts faces) d (omega arith)
      (omega arith)) (and_from _ _ on e))

  pub marked_begin : IsFirst (terrain_of faces) (begins faces marks) (marked_first faces marks)
  marked_begin = record {
    reached = record {
      apart = subst AreApart (sym (ridden_begun starts)) (apart_filter
          (λ e. is_origin faces marks e && not (is_on marks e)) (all_darts faces) (range_apart 0 (darts faces)));
      low = λ d n. (origin_of faces marks d (is_first d n)).0;
      left = λ d n. or_left _ (list_any (λ x. is_on marks x && is_end faces (from_of faces d) x) (all_darts faces))
          (any_at (λ x. eqb (from_of faces x) (from_of faces d)) d starts (is_first d n) (eq-eqb _ _ refl));
      alike = marked.alike;
      ends = λ d low on. (
        inl (stood_end (from_of faces d) d low on
            (or_left (eqb (from_of faces d) (from_of faces d)) _ (eq-eqb _ _ refl))),
        inl (stood_end (to_of faces d) d low on (or_right (eqb (from_of faces d) (to_of faces d)) _ (eq-eqb _ _ refl))),
      );
      kept = λ d k. k;
      trails = λ d n. (0, or_left _ _ (origin_of faces marks d (is_first d n)).1);
      tracked = λ d low on. let t = marked_trail faces m marks marked d low on in (t.0, inl t.1);
      through = λ d low k inner regular.
          let v = from_of faces d in
          let cross_at : (x : ℕ) → x < darts faces → from_of faces x ≡ from_of faces d → HasCross mesh x =
          λ x l at. (terrain faces m).crossed x l (ap (λ v. not (is_inner faces v)) at ∙ inner)
          (ap (is_singular faces) at ∙ regular) in
          elim (or_cases (list_any (λ x. eqb (from_of faces x) v) starts) _ k) [
            | inl a ↦
                let (x, n, e) = any_where (λ x. eqb (from_of faces x) v) starts a in
                let o = origin_of faces marks x n in
                let at : from_of faces x ≡ from_of faces d = eqb-true _ _ e in
                by_origin v x o.0 at (cross_at x o.0 at) o.1
            | inr b ↦
                let (x, n, there) = any_where (λ x. is_on marks x && is_end faces v x) (all_darts faces) b in
                let l : x < darts faces = omega (arith, (range_among 0 (darts faces) x n).1) in
                let p = and_parts (is_on marks x) (is_end faces v x) there in
                elim (or_cases (eqb (from_of faces x) v) _ p.1) [
                  | inl e ↦
                      let at : from_of faces x ≡ from_of faces d = eqb-true _ _ e in
                      by_mark v x l at (cross_at x l at) p.0
                  | inr e ↦
                      let t = twin_on faces m marks marked x l p.0 in
                      let lt = laws.twin_low x t.0 l t.1 in
                      let at : from_of faces t.0 ≡ from_of faces d = (laws.twin_ends x t.0 l t.1).0 ∙ eqb-true _ _ e in
                      by_mark v t.0 lt at (cross_at t.0 lt at) (marked.alike x t.0 l t.1 ∙ p.0)
                ]
          ];
    };
    found = λ d l. let by = found faces m d l in search (rules, start_of);
    begun = λ d l y. elim (or_cases _ _ y) [ inl o ↦ origin_soon d l o | inr h ↦ inl (and_parts _ _ h).0 ];
    before = λ d l y. elim (or_cases _ _ y) [
      | inl o ↦ shut_before (terrain_of faces) (terrain faces m) (marked_first faces marks) d l (spread d l o)
      | inr h ↦ search rules
    ];
    beside = λ d t l y w. elim (or_cases _ _ y) [
      | inl o ↦ shut_beside (terrain_of faces) (terrain faces m) (marked_first faces marks) d l (spread d l o) t w
      | inr h ↦ search rules
    ];
    singular = λ d low s. inl (origin_soon d low (or_left _ _ (or_left _ _ s)));
    sided = λ d l out. elim ((started faces m).sided d l out) [
      | inl s ↦ inl (inl (origin_soon (next_of d) (laws.next_low d l) (or_left _ _ (start_of faces (next_of d) s).1)))
      | inr (inl w) ↦ inl (inr (inl w))
      | inr (inr k) ↦ inr k
    ];
  }

-- Without marks the motion is that of the traced graph.

-- A test that nothing passes.
none_pass : (p : ℕ → Bool) (ds : List ℕ) → ((d : ℕ) → is_among d ds ≡ true → p d ≡ false) → list_any p ds ≡ false
none_pass p ds off = false_from_ne_true _ (λ y. let at = any_where p ds y in false≢true (sym (off at.0 at.1) ∙ at.2))

module _ (faces : Faces) where
  abbrev pub no_marks : List Bool
  no_marks = replicate (darts faces) false

  pub off : (d : ℕ) → is_on no_marks d ≡ false
  off d = none_on (darts faces) d

  pub are_none : AreMarks faces no_marks
  are_none = search (rules, length-replicate, off)

  no_round : (v n d : ℕ) → 0 < n → goes_round faces no_marks v n d ≡ false
  no_round v zero d l = absurd (omega arith)
  no_round v (suc n) d l = rw (off d) refl

  pub no_break : (v : ℕ) → is_break faces no_marks v ≡ false
  no_break v = search (rules, none_pass, off, no_round)

  same_test_at : (d : ℕ) → (is_origin faces no_marks d && not (is_on no_marks d)) ≡ is_start faces (seeds faces) d
  same_test_at d = search (rules, no_break, off)

  pub same_starts : marked_starts faces no_marks ≡ start_darts faces
  same_starts = λ i. filter (λ d. same_test_at d i) (all_darts faces)

  same_stood : (v : ℕ) → (list_any (λ d. eqb (from_of faces d) v) (marked_starts faces no_marks)
      || list_any (λ d. is_on no_marks d && is_end faces v d) (all_darts faces)) ≡ list_any
      (λ d. eqb (from_of faces d) v) (start_darts faces)
  same_stood v = search (rules, none_pass, off, same_starts)

  pub same_first : marked_first faces no_marks ≡ start (terrain_of faces) (start_darts faces)
  same_first = λ i. record { riders = map begun (same_starts i); stood = λ v. same_stood v i; covered = λ d. off d i }

  pub same_last : marked_last faces no_marks ≡ last_state faces
  same_last = ap (finish (terrain_of faces) (suc (vertex_count faces))) same_first

  pub same_cut : marked_cut faces no_marks ≡ traced_marks faces
  same_cut = ap (λ (s : State). map (is_cut (terrain_of faces) s) (all_darts faces)) same_last

  pub same_graph : (graph : Graph) → IsMarkedGraph faces no_marks graph → IsGraphOf faces graph
  same_graph graph g = search (rules, same_starts, same_last)
