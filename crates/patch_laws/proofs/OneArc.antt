-- Each side of each patch of the conforming cut is one arc: inside it lies no node.
use Rattle.std.proofs.Common.{rules, ◌≡◌, ◌⊎◌, ℕ, zero, suc, ◌+◌, ◌-◌, ◌<◌, ◌≤◌, Bool, true, false, not, eqb, List, []}
use Rattle.std.proofs.Common.{◌∷◌, length, Some, is_some, sym, ◌∙◌, ap, subst, refl, inl, inr, arith}
use Rattle.std.proofs.lemmas.Bool.{cases_eq, cases_lt, and_parts, false≢true, false_from_ne_true}
use Rattle.def_mesh.specs.{Darts.darts, Darts.from_of, Darts.next_of, Darts.prev_of, Darts.twin_of, HalfEdges.HalfEdges}
use Rattle.def_mesh.specs.{HalfEdges.IsQuadManifold, HalfEdges.half_edges, Faces.Faces, Kinds.is_inner}
use Rattle.def_mesh.specs.{Kinds.is_regular, Manifold.IsManifold, Vertices.fan_of, Vertices.faces_at}
use Rattle.def_cut.specs.{Cuts.HasCross, Cuts.IsCut, FullCut.is_on, Grids.patch_at, Motion.is_among, Steps.easts}
use Rattle.def_layout.specs.{Arcs.IsArc, Arcs.path_at, Arcs.long_at, Borders.side_size, Borders.border_dart}
use Rattle.def_layout.specs.{FaceLayouts.IsCutLayout, Gluings.Way, Lengths.reach, Nodes.is_lone_before}
use Rattle.def_layout.specs.{Nodes.cut_degree, Nodes.is_node, Layouts.Layout, Layouts.gluing_of}
use Rattle.cut_laws.proofs.Crosses.{Leaves, of_four, one_of_four, both_twins, no_fix, low_a, low_b}
use Rattle.face_laws.proofs.FullCuts.{has_fan, regular_cross, full_cut_law}
use Rattle.feature_laws.proofs.{Breaks.from_fan, Conforming.conforming_law, Conforming.straight_law}
use Rattle.motion_laws.proofs.Among.{AreApart, among_here, among_later, apart_filter, from_filter, range_apart}
use Rattle.motion_laws.proofs.Bits.{rotated}
use Rattle.merge_laws.proofs.{Layouts.IsBorder, Layouts.border, Sides.side_low, Sides.side_link, Sides.side_from}
use Rattle.{std.specs.List.filter, def_math.specs.Counts.count_below, def_feature.specs.Conforming.IsConforming}
use Rattle.{def_feature.specs.Marks.AreMarks, def_merge.specs.Joins.IsWholeSide, layout_laws.proofs.FaceNodes.are_nodes}
use Rattle.{layout_laws.proofs.Uses.use_run, mesh_laws.proofs.Chains.manifold_law}

-- Different numbers of which each is this one are at most one,
at_most_one : (y : ℕ) (xs : List ℕ) → AreApart xs → ((d : ℕ) → is_among d xs ≡ true → d ≡ y) → length xs ≤ 1
at_most_one y [] a each = omega arith
at_most_one y (d ∷ []) a each = omega arith
at_most_one y (d ∷ e ∷ xs) a each = search rules

-- and those of which each is one of two are at most two.
at_most_two : (y z : ℕ) (xs : List ℕ) → AreApart xs → ((d : ℕ) → is_among d xs ≡ true → (d ≡ y) ⊎ (d ≡ z))
    → length xs ≤ 2
at_most_two y z [] a each = omega arith
at_most_two y z (d ∷ xs) a each =
    let not_first : (e : ℕ) → is_among e xs ≡ true → e ≡ d
    → ⊥ = λ e n s. false≢true (sym a.0 ∙ subst (λ (x : ℕ). is_among x xs ≡ true) s n) in
    let one : (w : ℕ) → length xs ≤ 1 → length (d ∷ xs) ≤ 2 = λ w l. omega arith in
    elim (each d (among_here d d xs refl)) [
      | inl s ↦ one z (at_most_one z xs a.1
          (λ e n. elim (each e (among_later e d xs n)) [ inl k ↦ absurd (not_first e n (k ∙ sym s)) | inr k ↦ k ]))
      | inr s ↦ one y (at_most_one y xs a.1
          (λ e n. elim (each e (among_later e d xs n)) [ inl k ↦ k | inr k ↦ absurd (not_first e n (k ∙ sym s)) ]))
    ]

none_there : (xs : List ℕ) → ((d : ℕ) → is_among d xs ≡ true → ⊥) → length xs ≡ 0
none_there [] each = refl
none_there (d ∷ xs) each = absurd (each d (among_here d d xs refl))

-- Sums grow.
count_on : (f : ℕ → ℕ) (m j : ℕ) → count_below f m ≤ count_below f (j + m)
count_on f m zero = let e : 0 + m ≡ m = omega arith in omega (arith, ap (count_below f) e)
count_on f m (suc j) = let e : suc j + m ≡ suc (j + m) =
    omega arith in omega (arith, ap (count_below f) e, count_on f m j)

module _ (faces : Faces) (m : IsManifold faces) (marks : List Bool) (marked : AreMarks faces marks) (cut : List Bool)
    (conform : IsConforming faces marks cut) where
  abbrev mesh : HalfEdges
  mesh = half_edges faces

  abbrev laws : IsQuadManifold (half_edges faces)
  laws = manifold_law faces m

  full : IsCut (half_edges faces) (is_on cut)
  full = ((full_cut_law faces cut m).0 (conforming_law faces marks cut m marked conform).full).1

  fan_apart : (p : ℕ → Bool) (v : ℕ) → AreApart (filter p (fan_of faces v))
  fan_apart p v = apart_filter p _ (apart_filter (λ d. eqb (from_of faces d) v) _ (range_apart 0 _))

  fan_there : (p : ℕ → Bool) (v d : ℕ) → is_among d (filter p (fan_of faces v)) ≡ true → (d < darts faces)
      × (from_of faces d ≡ v) × (p d ≡ true)
  fan_there p v d n = search (rules, from_filter, from_fan)

  -- An edge that is not cut, with both neighbours at a vertex: no node.
  module _ (p x : ℕ) (lp : p < darts faces) (lx : x < darts faces) (over : twin_of faces p ≡ Some (prev_of x))
      (off : is_on cut p ≡ false) where
    abbrev v : ℕ
    v = from_of faces p

    at : from_of faces x ≡ v
    at = ap (from_of faces) (sym (laws.next_prev x)) ∙ (laws.twin_ends p (prev_of x) lp over).1

    two : (p ≡ x → ⊥)
    two e = no_fix laws p lp (laws.twin_twin p (prev_of p) lp (cc (over, e)))

    many : 2 ≤ faces_at faces v
    many = (has_fan faces v).least 2 (of_four p x x x) (record { each = each; apart = apart })
      where
        each : (j : ℕ) → j < 2 → Leaves (half_edges faces) v (of_four p x x x j)
        each zero l = record { low = lp; at = refl }
        each (suc zero) l = record { low = lx; at = at }
        each (suc (suc j)) l = absurd (omega arith)

        apart : (i j : ℕ) → i < 2 → j < 2 → of_four p x x x i ≡ of_four p x x x j → i ≡ j
        apart zero zero li lj e = refl
        apart zero (suc zero) li lj e = absurd (two e)
        apart (suc zero) zero li lj e = absurd (two (sym e))
        apart (suc zero) (suc zero) li lj e = refl
        apart _ _ li lj e = absurd (omega arith)

    inner_regular : is_inner faces v ≡ true → is_regular faces v ≡ true
    inner_regular inner = search rules

    outer_two : is_inner faces v ≡ false → faces_at faces v ≡ 2
    outer_two out = search (rules, many)

    few_inner : is_inner faces v ≡ true → cut_degree faces cut v ≤ 2
    few_inner inner = by_cross (regular_cross faces laws p lp inner (inner_regular inner))
      where
        by_cross : HasCross (half_edges faces) p → cut_degree faces cut v ≤ 2
        by_cross (a, b, c, k) =
            let some : length (filter (is_on cut) (fan_of faces v)) ≤ 2 = at_most_two a c (filter (is_on cut)
            (fan_of faces v)) (fan_apart (is_on cut) v) (λ d n. each d (fan_there (is_on cut) v d n)) in
            let lone : length (filter (is_lone_before faces cut) (fan_of faces v)) ≡ 0 =
            none_there (filter (is_lone_before faces cut) (fan_of faces v))
            (λ d n. alone d (fan_there (is_lone_before faces cut) v d n)) in
            omega (arith, some, lone)
          where
            la : a < darts faces
            la = low_a laws p a b c lp k

            lb : b < darts faces
            lb = low_b laws p a b c lp k

            off_b : is_on cut b ≡ false
            off_b = false_from_ne_true _ (λ y. false≢true (sym off ∙ straight_law faces marks cut m marked conform b c p
                a lb (rotated mesh laws a b c p la (rotated mesh laws p a b c lp k)) y))

            each : (d : ℕ) → (d < darts faces) × (from_of faces d ≡ v) × (is_on cut d ≡ true) → (d ≡ a) ⊎ (d ≡ c)
            each d (ld, e, on) = elim (one_of_four laws p a b c lp k d (record { low = ld; at = e })) [
              | inl s ↦ absurd (cc (off, s, on))
              | inr (inl s) ↦ inl s
              | inr (inr (inl s)) ↦ absurd (false≢true (sym off_b ∙ (ap (is_on cut) (sym s) ∙ on)))
              | inr (inr (inr s)) ↦ inr s
            ]

            alone : (d : ℕ) → (d < darts faces) × (from_of faces d ≡ v) × (is_lone_before faces cut d ≡ true) → ⊥
            alone d (ld, e, on) =
                let t : (t : ℕ) × (twin_of faces (prev_of d) ≡ Some t) =
                (both_twins laws p a b c lp k d (record { low = ld; at = e })).0 in
                let none : not (is_some (twin_of faces (prev_of d))) ≡ true =
                (and_parts (is_on cut (prev_of d)) _ on).1 in
                cc (t.1, none)

    few_outer : is_inner faces v ≡ false → cut_degree faces cut v ≤ 2
    few_outer out =
        let some : length (filter (is_on cut) (fan_of faces v)) ≤ 1 = at_most_one x
        (filter (is_on cut) (fan_of faces v)) (fan_apart (is_on cut) v) (λ d n. each d (fan_there (is_on cut) v d n)) in
        let lone : length (filter (is_lone_before faces cut) (fan_of faces v))
        ≤ 1 = at_most_one p (filter (is_lone_before faces cut) (fan_of faces v))
        (fan_apart (is_lone_before faces cut) v) (λ d n. alone d (fan_there (is_lone_before faces cut) v d n)) in
        omega (arith, some, lone)
      where
        -- A third dart would be one too many.
        one_of_two : (d : ℕ) → d < darts faces → from_of faces d ≡ v → (d ≡ p) ⊎ (d ≡ x)
        one_of_two d ld e = elim (cases_eq d p)
            [ inl s ↦ inl s | inr ne ↦ elim (cases_eq d x) [ inl s ↦ inr s | inr nx ↦ absurd (third ne nx) ] ]
          where
            third : (d ≡ p → ⊥) → (d ≡ x → ⊥) → ⊥
            third ne nx =
                let three : 3 ≤ faces_at faces v = (has_fan faces v).least 3
                (of_four p x d d) (record { each = each; apart = apart }) in
                let both : faces_at faces v ≡ 2 = outer_two out in
                omega arith
              where
                each : (j : ℕ) → j < 3 → Leaves (half_edges faces) v (of_four p x d d j)
                each zero l = record { low = lp; at = refl }
                each (suc zero) l = record { low = lx; at = at }
                each (suc (suc zero)) l = record { low = ld; at = e }
                each (suc (suc (suc j))) l = absurd (omega arith)

                apart : (i j : ℕ) → i < 3 → j < 3 → of_four p x d d i ≡ of_four p x d d j → i ≡ j
                apart zero zero li lj s = refl
                apart zero (suc zero) li lj s = absurd (two s)
                apart zero (suc (suc zero)) li lj s = absurd (ne (sym s))
                apart (suc zero) zero li lj s = absurd (two (sym s))
                apart (suc zero) (suc zero) li lj s = refl
                apart (suc zero) (suc (suc zero)) li lj s = absurd (nx (sym s))
                apart (suc (suc zero)) zero li lj s = absurd (ne s)
                apart (suc (suc zero)) (suc zero) li lj s = absurd (nx s)
                apart (suc (suc zero)) (suc (suc zero)) li lj s = refl
                apart _ _ li lj s = absurd (omega arith)

        each : (d : ℕ) → (d < darts faces) × (from_of faces d ≡ v) × (is_on cut d ≡ true) → d ≡ x
        each d (ld, e, on) = elim (one_of_two d ld e) [ inl s ↦ absurd (cc (off, s, on)) | inr s ↦ s ]

        alone : (d : ℕ) → (d < darts faces) × (from_of faces d ≡ v) × (is_lone_before faces cut d ≡ true) → d ≡ p
        alone d (ld, e, on) = elim (one_of_two d ld e) [
          | inl s ↦ s
          | inr s ↦
              let back : twin_of faces (prev_of d) ≡ Some p = cc (s, laws.twin_twin p (prev_of x) lp over) in
              let none : not (is_some (twin_of faces (prev_of d))) ≡ true =
              (and_parts (is_on cut (prev_of d)) _ on).1 in
              absurd (cc (back, none))
        ]

    no_node : is_node faces cut v ≡ false
    no_node = search (rules, few_inner, few_outer, outer_two)

  -- Inside a side lies no node.
  no_node_inside : (s n : ℕ) → IsWholeSide (half_edges faces) (is_on cut) s n → (k : ℕ) → suc k < n
      → is_node faces cut (from_of faces (easts (half_edges faces) s (suc k))) ≡ false
  no_node_inside s n side k l = cc (
    side_from laws full side k l,
    no_node (next_of (easts (half_edges faces) s k)) (easts (half_edges faces) s (suc k))
        (laws.next_low (easts (half_edges faces) s k) (side_low laws full side k (omega arith)))
        (side_low laws full side (suc k) l) (side_link laws full side k l) (side.inside k l),
  )

  module _ (layout : Layout) (lay : IsCutLayout faces cut layout) (patch : ℕ) (side : Way)
      (low : patch < length layout.patches)
    where
      abbrev sides : ℕ
      sides = (gluing_of layout).many patch side

      abbrev lengths : ℕ → ℕ
      lengths k = long_at layout.arcs ((gluing_of layout).use_at patch side k).arc

      lined_up : IsBorder (half_edges faces) (is_on cut) (patch_at layout.patches patch) side
      lined_up = border mesh laws (is_on cut) full (patch_at layout.patches patch) (lay.patches.patch patch low).grid
          side

      sized : count_below lengths sides ≡ side_size (patch_at layout.patches patch) side
      sized = lay.sizes patch side low

      arc_there : (k : ℕ) → k < sides → IsArc (half_edges faces) (is_on cut) (is_node faces cut)
          (path_at layout.arcs ((gluing_of layout).use_at patch side k).arc).darts
      arc_there k l = lay.arcs.each ((gluing_of layout).use_at patch side k).arc
          (lay.uses (record { patch = patch; side = side; at = k }) (record { patch_low = low; low = l }))

      -- An arc in use begins at a node.
      node_at : (k : ℕ) → k < sides → reach (gluing_of layout) (long_at layout.arcs) patch side k < side_size
          (patch_at layout.patches patch) side → is_node faces cut (from_of faces
          (border_dart (half_edges faces) (patch_at layout.patches patch) side
          (reach (gluing_of layout) (long_at layout.arcs) patch side k))) ≡ true
      node_at k l place =
          let none : reach (gluing_of layout) (long_at layout.arcs) patch side k + 0 ≡ reach (gluing_of layout)
          (long_at layout.arcs) patch side k = omega arith in
          cc (
            none,
            (use_run mesh laws (is_on cut) full (is_node faces cut) (are_nodes faces laws cut full) (path_at
                layout.arcs ((gluing_of layout).use_at patch side k).arc).darts ((gluing_of layout).use_at patch side
                k).forward (border_dart (half_edges faces) (patch_at layout.patches patch) side
                (reach (gluing_of layout) (long_at layout.arcs) patch side k + 0)) (arc_there k l) (lay.used (record {
                  patch = patch;
                  side = side;
                  at = k;
                }) 0 (record { patch_low = low; low = l }) (arc_there k l).run.some)).run.begins,
          )

      pub one_arc : sides ≡ 1
      one_arc = by_size (cases_lt 1 sides) (cases_eq sides 0)
        where
          two_arcs : 1 < sides → ⊥
          two_arcs l =
              let first = (arc_there 0 (omega (arith, l))).run.some in
              let second = (arc_there 1 l).run.some in
              let grown = count_on lengths 2 (sides - 2) in
              let whole : sides - 2 + 2 ≡ sides = omega (arith, l) in
              let place : count_below lengths 1 < side_size (patch_at layout.patches patch) side =
              omega (arith, grown, ap (count_below lengths) whole, sized, second) in
              let before : suc (lengths 0 - 1) ≡ count_below lengths 1 = omega (arith, first) in
              let off = ap (λ z. is_node faces cut (from_of faces z))
              (sym (lined_up.along (count_below lengths 1) place) ∙ ap (easts (half_edges faces)
              (border_dart (half_edges faces) (patch_at layout.patches patch) side 0)) (sym before))
              ∙ no_node_inside (border_dart (half_edges faces) (patch_at layout.patches patch) side 0) (side_size
              (patch_at layout.patches patch) side) lined_up.whole (lengths 0 - 1) (omega (arith, before, place)) in
              cc (off, node_at 1 l place)

          by_size : (1 < sides) ⊎ (sides ≤ 1) → (sides ≡ 0) ⊎ (sides ≡ 0 → ⊥) → sides ≡ 1
          by_size (inl l) e = absurd (two_arcs l)
          by_size (inr l) (inl e) = search rules
          by_size (inr l) (inr ne) = omega (arith, l, ne)
