-- Fans and kinds of the vertices of a list of faces, told by turns of its half edges.
use Rattle.std.proofs.Common.{◌≡◌, ◌⊎◌, ℕ, zero, suc, ◌+◌, ◌-◌, ◌*◌, ◌/◌, ◌%◌, ◌<◌, true, not, ◌||◌, eqb, length}
use Rattle.std.proofs.Common.{get_or, Option, Some, None, is_some, sym, ◌∙◌, ap, subst, refl, inl, inr, arith}
use Rattle.std.proofs.Common.{rules, Bool, false, List, option_map, true≢false, ◌&&◌}
use Rattle.std.proofs.lemmas.Bool.{cases_Bool, cases_order, eqb-true, eq-eqb, ne_eqb, cond-true, cond-false, or_left}
use Rattle.std.proofs.lemmas.Bool.{or_right, or_cases, not_from_true, not_from_false, false≢true, and_parts}
use Rattle.std.proofs.{lemmas.List.FromFn.length-range_with_len, lemmas.List.FromFn.get_or-range_with_len}
use Rattle.std.proofs.{lemmas.List.Sums.list_all-from_AllPass, lemmas.List.Sums.AllPass-from_list_all}
use Rattle.def_mesh.specs.Darts.{darts, all_darts, from_of, to_of, next_of, prev_of, twin_of}
use Rattle.def_mesh.specs.{Faces.Faces, Vertices.faces_at, Vertices.fan_of, Kinds.is_end, Kinds.is_inner}
use Rattle.def_mesh.specs.{Kinds.is_regular, HalfEdges.half_edges, HalfEdges.IsQuadManifold, HalfEdges.HalfEdges}
use Rattle.def_cut.specs.{Cuts.HasCross, Cuts.IsUncut, Cuts.Links, Cuts.IsCorner, Cuts.GoesOn, Cuts.IsCut, Steps.spin}
use Rattle.def_cut.specs.{FullCut.is_on, FullCut.IsChain, FullCut.IsFullCut, Laws.FullCutLaw}
use Rattle.mesh_laws.proofs.Chains.{is_fan, manifold_law, next_face}
use Rattle.cut_laws.proofs.Crosses.{HasFan, of_four, four_cross, four_all, four_some, both_twins}
use Rattle.cut_laws.proofs.{Pigeon.no_more, Corners.spin_back, Corners.spin_join, Classes.AreLinked, Classes.step_over}
use Rattle.cut_laws.proofs.{Rows.first_or_none, Classes.step_spin, Classes.links_low}

-- The number of faces at v is the number of darts that leave it.
pub has_fan : (faces : Faces) (v : ℕ) → HasFan (half_edges faces) v (faces_at faces v)
has_fan faces v =
    let darts = fan_of faces v in
    let fan = is_fan _ v _ refl in
    let at = λ (i : ℕ). get_or darts i 0 in
    record {
      most = λ n g all.
          no_more _ n at g (λ i j li lj e. search (rules, cases_order i j, fan.increasing i j, fan.increasing j i))
          (λ i l. all (at i) (record { low = fan.dart i l; at = fan.leaves i l }));
      least = λ n g some. no_more n _ g at some.apart (λ i l. fan.place (g i) (some.each i l).low (some.each i l).at);
    }

-- Where a test gives `is_some`, there is a twin, and the other way round.
some_there : (o : Option ℕ) → is_some o ≡ true → (t : ℕ) × (o ≡ Some t)
some_there None e = absurd (false≢true e)
some_there (Some t) e = (t, refl)

-- The ends of a dart, by the test of them.
ends_from : (faces : Faces) (v d : ℕ) → is_end faces v d ≡ true → (from_of faces d ≡ v) ⊎ (to_of faces d ≡ v)
ends_from faces v d e = elim (or_cases _ _ e) [ inl s ↦ inl (eqb-true _ _ s) | inr s ↦ inr (eqb-true _ _ s) ]

end_from : (faces : Faces) (v d : ℕ) → (from_of faces d ≡ v) ⊎ (to_of faces d ≡ v) → is_end faces v d ≡ true
end_from faces v d ends = elim ends [ inl e ↦ or_left _ _ (eq-eqb _ _ e) | inr e ↦ or_right _ _ (eq-eqb _ _ e) ]

-- v is inner where each edge at it has two darts.
pub inner_from : (faces : Faces) (v : ℕ) → ((d : ℕ) → d < darts faces → (from_of faces d ≡ v) ⊎ (to_of faces d ≡ v)
    → (t : ℕ) × (twin_of faces d ≡ Some t)) → is_inner faces v ≡ true
inner_from faces v each = list_all-from_AllPass (λ d. not (is_end faces v d) || is_some (twin_of faces d))
    (all_darts faces) (λ k x n. let l : k < darts faces = omega (arith, length-range_with_len 0 (darts faces)) in
    let at : get_or (all_darts faces) k x ≡ k = get_or-range_with_len 0 (darts faces) k x l ∙ omega arith in
    rw at (elim (cases_Bool (is_end faces v k)) [
      | inl e ↦ or_right (not (is_end faces v k)) (is_some (twin_of faces k))
          (ap is_some (each k l (ends_from faces v k e)).1)
      | inr e ↦ or_left (not (is_end faces v k)) (is_some (twin_of faces k)) (not_from_false _ e)
    ]))

pub inner_twin : (faces : Faces) (v : ℕ) → is_inner faces v ≡ true → (d : ℕ) → d < darts faces → (from_of faces d ≡ v)
    ⊎ (to_of faces d ≡ v) → (t : ℕ) × (twin_of faces d ≡ Some t)
inner_twin faces v inner d l ends =
    let is = end_from faces v d ends in
    let passes = subst (λ (x : ℕ). (not (is_end faces v x) || is_some (twin_of faces x)) ≡ true)
    (get_or-range_with_len 0 (darts faces) d 0 l ∙ omega arith) (AllPass-from_list_all (λ d. not (is_end faces v d)
    || is_some (twin_of faces d)) (all_darts faces) inner d 0 (omega (arith, length-range_with_len 0 (darts faces)))) in
    some_there (twin_of faces d) (elim (or_cases (not (is_end faces v d)) (is_some (twin_of faces d)) passes)
    [ inl off ↦ absurd (false≢true (sym (not_from_true _ is) ∙ off)) | inr on ↦ on ])

module _ (faces : Faces) (laws : IsQuadManifold (half_edges faces)) where
  -- A regular inner vertex has a cross at each dart,
  pub regular_cross : (d : ℕ) → d < darts faces → is_inner faces (from_of faces d) ≡ true
      → is_regular faces (from_of faces d) ≡ true → HasCross (half_edges faces) d
  regular_cross d l inner regular =
      let v = from_of faces d in
      let many : faces_at faces v ≡ 4 = eqb-true _ _ regular ∙ cond-true (is_inner faces v) 4 2 inner in
      four_cross laws v (λ x lx at. inner_twin faces v inner (prev_of x) (laws.prev_low x lx)
      (inr (ap (from_of faces) (laws.next_prev x) ∙ at))) d (record { low = l; at = refl })
      (subst (λ (n : ℕ). HasFan (half_edges faces) v n) many (has_fan faces v))

  -- and a vertex with a cross is inner and regular.
  pub cross_inner : (d : ℕ) → d < darts faces → HasCross (half_edges faces) d → is_inner faces (from_of faces d) ≡ true
  cross_inner d l c = inner_from faces _ (λ x lx at. elim at [
    | inl at ↦ (both_twins laws d c.0 _ c.2 l c.3 x (record { low = lx; at = at })).1
    | inr at ↦
        let t = (both_twins laws d _ c.1 _ l c.3 (next_of x) (record { low = laws.next_low x lx; at = at })).0 in
        (t.0, ap (twin_of faces) (sym (laws.prev_next x)) ∙ t.1)
  ])

  pub cross_regular : (d : ℕ) → d < darts faces → HasCross (half_edges faces) d → is_regular faces (from_of faces d)
      ≡ true
  cross_regular d l c =
      let fan = has_fan faces (from_of faces d) in
      let most = fan.most 4 (of_four d c.0 c.1 c.2) (four_all laws d c.0 c.1 c.2 l c.3) in
      let least = fan.least 4 (of_four d c.0 c.1 c.2) (four_some laws d c.0 c.1 c.2 l c.3) in
      let four : faces_at faces (from_of faces d) ≡ 4 = omega arith in
      eq-eqb _ _ (four ∙ sym (cond-true (is_inner faces (from_of faces d)) 4 2 (cross_inner d l c)))

  -- Darts of one face are sides of each other.
  from_first : (f i : ℕ) → i < 4 → 4 * f + i ≡ spin (half_edges faces) i (4 * f)
  from_first f zero l = omega arith
  from_first f (suc i) l =
      let d = 4 * f + i in
      let s : next_of d ≡ d + 1 = cond-false (eqb (d % 4) 3) (d - 3) (d + 1) (ne_eqb (d % 4) 3 (omega arith)) in
      omega arith ∙ (sym s ∙ ap next_of (from_first f i (omega arith)))

  pub same_face : (x y : ℕ) → x / 4 ≡ y / 4 → (k : ℕ) × (y ≡ spin (half_edges faces) k x)
  same_face x y e =
      let first : x ≡ spin (half_edges faces) (x % 4) (4 * (x / 4)) =
      omega arith ∙ from_first _ (x % 4) (omega arith) in
      let last : y ≡ spin (half_edges faces) (y % 4) (4 * (x / 4)) = omega arith ∙ from_first _ (y % 4) (omega arith) in
      let back = spin_back laws (x % 4) _ in
      let home = back.1 ∙ ap (spin (half_edges faces) back.0) (sym first) in
      let join = spin_join laws (y % 4) back.0 x in
      (join.0, last ∙ (ap (spin (half_edges faces) (y % 4)) home ∙ join.1))

-- A full cut of a list of faces and a full cut of its half edges are one.

module _ (faces : Faces) (laws : IsQuadManifold (half_edges faces)) (marks : List Bool) where
  abbrev mesh : HalfEdges
  mesh = half_edges faces

  abbrev cut : ℕ → Bool
  cut d = is_on marks d

  -- From the faces to the half edges.
  module _ (full : IsFullCut faces marks) where
    twin_there : (d : ℕ) → d < darts faces → cut d ≡ false → (o : Option ℕ) → twin_of faces d ≡ o
        → (t : ℕ) × (twin_of faces d ≡ Some t)
    twin_there d l off None is = absurd (true≢false (sym (full.boundary d l is) ∙ off))
    twin_there d l off (Some t) is = (t, is)

    crossed : (d : ℕ) → d < darts faces → IsUncut mesh cut (from_of faces d) → HasCross mesh d
    crossed d l uncut =
        let off : (x : ℕ) → x < darts faces → (from_of faces x ≡ from_of faces d) ⊎ (to_of faces x ≡ from_of faces d)
        → cut x ≡ false = λ x lx at. let back = laws.prev_next x in
        search (rules, uncut x lx, uncut (next_of x) (laws.next_low x lx)) in
        let inner = inner_from _ _ (λ x lx at. twin_there x lx (off x lx at) _ refl) in
        regular_cross _ laws d l inner (elim (cases_Bool (is_regular faces (from_of faces d))) [
          | inl on ↦ on
          | inr other ↦ let e = full.irregular d l other in absurd (true≢false (sym e.2 ∙ off e.0 e.1 e.3))
        ])

    -- Faces that are joined by a chain have their darts in one class.
    chain_links : (f g n : ℕ) → IsChain faces marks f g n → (x y : ℕ) → x / 4 ≡ f → y / 4 ≡ g → AreLinked mesh cut x y
    chain_links f g zero c x y ex ey =
        let s = same_face faces laws x y (ex ∙ (c ∙ sym ey)) in
        rw s.1 (step_spin laws cut x x s.0 (0, refl))
    chain_links f g (suc n) c x y ex ey =
        let before = chain_links f (c.0 / 4) n c.2 x c.0 ex refl in
        let over = step_over laws cut x c.0 c.1 before c.4 c.5 in
        let s = same_face faces laws c.1 y (sym c.6 ∙ sym ey) in
        rw s.1 (step_spin laws cut x c.1 s.0 over)

    corner : (d : ℕ) → d < darts faces → (e : ℕ) × (n : ℕ) × Links mesh cut d e n × IsCorner mesh cut e
    corner d l =
        let c = full.corner (d / 4) (omega arith) in
        let k = chain_links (d / 4) (c.0 / 4) c.1 c.2 d c.0 refl refl in
        (c.0, k.0, k.1, (c.3, c.4, c.5))

    gaps : (d : ℕ) → d < darts faces → cut d ≡ true → GoesOn mesh cut d
    gaps d l on = elim (full.gaps d l on) [ inl m ↦ inl m | inr s ↦ inr (by_twin _ refl s.0 s.1 s.2) ]
      where
        by_twin : (o : Option ℕ) → twin_of faces (next_of d) ≡ o → (e : ℕ) → option_map next_of o ≡ Some e
            → cut e ≡ true → (t : ℕ) × (twin_of faces (next_of d) ≡ Some t) × (cut (next_of t) ≡ true)
        by_twin None is e s m = absurd cc
        by_twin (Some t) is e s m = (t, is, cc)

    pub to_cut : IsCut mesh cut
    to_cut = record { alike = full.alike; boundary = full.boundary; gaps = gaps; crossed = crossed; corner = corner }

  -- And back.
  module _ (long : length marks ≡ darts faces) (full : IsCut mesh cut) where
    irregular : (d : ℕ) → d < darts faces → is_regular faces (from_of faces d) ≡ false → (e : ℕ) × (e < darts faces)
        × (cut e ≡ true) × ((from_of faces e ≡ from_of faces d) ⊎ (to_of faces e ≡ from_of faces d))
    irregular d l other = elim (first_or_none (λ e. cut e && is_end faces (from_of faces d) e) (darts faces)) [
      | inl (e, e_low, first) ↦
          let (on, ends) = and_parts (cut e) (is_end faces (from_of faces d) e) first.on in
          (e, e_low, on, ends_from faces (from_of faces d) e ends)
      | inr none ↦
          let off : (x : ℕ) → x < darts faces → (from_of faces x ≡ from_of faces d) ⊎ (to_of faces x ≡ from_of faces d)
          → cut x ≡ false = λ x lx at.
          search (rules, none x lx, end_from faces (from_of faces d) x at, cases_Bool (cut x)) in
          absurd (false≢true (sym other ∙ cross_regular faces laws d l (full.crossed d l (λ x lx at. (
            off x lx (inl at),
            off (prev_of x) (laws.prev_low x lx) (inr (ap (from_of faces) (laws.next_prev x) ∙ at)),
          )))))
    ]

    -- Darts of one class lie in faces that a chain joins.
    links_chain : (d e n : ℕ) → d < darts faces → Links mesh cut d e n → (k : ℕ) × IsChain faces marks (d / 4) (e / 4) k
    links_chain d e zero l a = (0, ap (λ x. x / 4) a)
    links_chain d e (suc n) l a =
        let c = a.0 in
        let r = links_chain d c n l a.1 in
        elim a.2 [
          | inl s ↦ (r.0, rw (s, next_face c) r.1)
          | inr o ↦ (suc r.0, (c, e, r.1, links_low laws cut d c n l a.1, o.0, o.1, refl))
        ]

    corners : (f : ℕ) → f < length faces → (d : ℕ) × (n : ℕ) × IsChain faces marks f (d / 4) n × (d < darts faces)
        × (cut d ≡ true) × (cut (prev_of d) ≡ true)
    corners f l =
        let c = full.corner (4 * f) (omega arith) in
        let r = links_chain (4 * f) c.0 c.1 (omega arith) c.2 in
        let first : 4 * f / 4 ≡ f = omega arith in
        (c.0, r.0, rw first at r.1, c.3.0, c.3.1, c.3.2)

    pub from_cut : IsFullCut faces marks
    from_cut = record {
      long = long;
      alike = full.alike;
      boundary = full.boundary;
      gaps = λ d l on. elim (full.gaps d l on) [
        | inl m ↦ inl m
        | inr g ↦ inr (next_of g.0, ap (option_map next_of) g.1, g.2)
      ];
      irregular = irregular;
      corner = corners;
    }

pub full_cut_law : FullCutLaw
full_cut_law faces marks manifold = (
  λ full. (full.long, to_cut faces (manifold_law faces manifold) marks full),
  λ p. from_cut faces (manifold_law faces manifold) marks p.0 p.1,
)
