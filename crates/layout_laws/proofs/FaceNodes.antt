-- The nodes of a cut of faces are what the laws of layouts need of nodes.
use Rattle.std.proofs.Common.{rules, ◌≡◌, ◌⊎◌, ℕ, zero, suc, ◌<◌, ◌≤◌, Bool, true, false, not, List, [], ◌∷◌, length}
use Rattle.std.proofs.Common.{get_or, Some, None, is_some, sym, ◌∙◌, ap, refl, inl, inr, arith}
use Rattle.std.proofs.lemmas.Bool.{cases_Bool, cases_eq, or_parts, not-false, and_from, true_from_ne_false}
use Rattle.def_mesh.specs.{Darts.darts, Darts.from_of, Darts.to_of, Darts.next_of, Darts.prev_of, Darts.twin_of}
use Rattle.def_mesh.specs.{HalfEdges.half_edges, HalfEdges.Turns, HalfEdges.IsQuadManifold, Faces.Faces}
use Rattle.def_mesh.specs.{Vertices.fan_of, Kinds.is_inner, Kinds.is_regular}
use Rattle.def_cut.specs.{Cuts.IsCross, Cuts.HasCross, Cuts.IsCut, FullCut.is_on}
use Rattle.def_layout.specs.Nodes.{is_lone_before, is_node, AreNodes}
use Rattle.cut_laws.proofs.Crosses.{Leaves, HasFan, of_four, no_fix, low_a, low_b, low_c, at_a, at_b, at_c, four_apart}
use Rattle.cut_laws.proofs.{Pigeon.no_more, Folds.turn_from, Folds.turn_low, Folds.two_darts, Folds.next_same}
use Rattle.face_laws.proofs.FullCuts.{has_fan, inner_from, inner_twin, regular_cross}
use Rattle.{std.specs.List.filter, mesh_laws.proofs.Chains.is_fan, layout_laws.proofs.Runs.none_or}

-- What passes a test keeps its place in the filtered list.
filter_place : (p : ℕ → Bool) (xs : List ℕ) (i : ℕ) → i < length xs → p (get_or xs i 0) ≡ true
    → (k : ℕ) × (k < length (filter p xs)) × (get_or (filter p xs) k 0 ≡ get_or xs i 0)
filter_place p [] i l on = absurd (omega arith)
filter_place p (x ∷ xs) zero l on = rw on (0, omega arith, refl)
filter_place p (x ∷ xs) (suc i) l on =
    let r = filter_place p xs i (omega arith) on in
    elim (cases_Bool (p x)) [ inl kept ↦ rw kept (suc r.0, omega (arith, r.1), r.2) | inr gone ↦ rw gone r ]

-- n different darts of the fan that pass a test.
fan_least : (faces : Faces) (v : ℕ) (p : ℕ → Bool) (n : ℕ) (g : ℕ → ℕ)
    → ((j : ℕ) → j < n → (g j < darts faces) × (from_of faces (g j) ≡ v) × (p (g j) ≡ true))
    → ((i j : ℕ) → i < n → j < n → g i ≡ g j → i ≡ j) → n ≤ length (filter p (fan_of faces v))
fan_least faces v p n g each apart =
    let fan = is_fan faces v _ refl in
    no_more n _ g (λ k. get_or (filter p (fan_of faces v)) k 0) apart (λ j l.
    let d = each j l in
    let q = fan.place (g j) d.0 d.1 in
    let r = filter_place p _ q.0 q.1 (cc) in
    (r.0, r.1, cc))

-- Two darts by number, and three.
abbrev of_two : (x y k : ℕ) → ℕ
of_two x y zero = x
of_two x y (suc k) = y

two_each : (P : ℕ → Type 0) {x y : ℕ} → P x → P y → (j : ℕ) → P (of_two x y j)
two_each P a b zero = a
two_each P a b (suc j) = b

abbrev of_three : (x y z k : ℕ) → ℕ
of_three x y z zero = x
of_three x y z (suc k) = of_two y z k

three_each : (P : ℕ → Type 0) {x y z : ℕ} → P x → P y → P z → (j : ℕ) → P (of_three x y z j)
three_each P a b c zero = a
three_each P a b c (suc j) = two_each P b c j

module _ (faces : Faces) (laws : IsQuadManifold (half_edges faces)) (marks : List Bool)
    (full : IsCut (half_edges faces) (is_on marks)) where
  -- A vertex that is no node is regular, and has at most two edges of the cut.
  regular_at : (v : ℕ) → is_node faces marks v ≡ false → is_regular faces v ≡ true
  regular_at v off = not-false (is_regular faces v) (or_parts (not (is_regular faces v)) _ off).0

  -- Dart d of the cut leaves v.
  abbrev IsOn : (v d : ℕ) → Type 0
  IsOn v d = (d < darts faces) × (from_of faces d ≡ v) × (is_on marks d ≡ true)

  -- Three darts of the cut that leave v; and two of them, with one that arrives alone.
  three_leave : (v x y z : ℕ) → IsOn v x → IsOn v y → IsOn v z → (x ≡ y → ⊥) → (x ≡ z → ⊥) → (y ≡ z → ⊥)
      → is_node faces marks v ≡ false → ⊥
  three_leave v x y z a b c xy xz yz off =
      let some = fan_least _ v (is_on marks) 3 _ (λ j l. three_each (IsOn v) a b c j) (search rules) in
      search rules

  two_and_one : (v x y z : ℕ) → IsOn v x → IsOn v y → z < darts faces → from_of faces z ≡ v → (x ≡ y → ⊥)
      → twin_of faces (prev_of z) ≡ None → is_node faces marks v ≡ false → ⊥
  two_and_one v x y z a b lz az ne lone off =
      let passes = and_from _ _ (full.boundary (prev_of z) (laws.prev_low z lz) lone)
      (ap (λ o. not (is_some o)) lone) in
      let some = fan_least _ v (is_on marks) 2 _ (λ j l. two_each (IsOn v) a b j) (search rules) in
      let one = fan_least _ v (is_lone_before faces marks) 1 _ (λ j l. (lz, az, passes)) (λ i j li lj e. omega arith) in
      search rules

  -- No three darts leave a vertex with two faces.
  no_third : (v x y z : ℕ) → HasFan (half_edges faces) v 2 → Leaves (half_edges faces) v x
      → Leaves (half_edges faces) v y → Leaves (half_edges faces) v z → (x ≡ y → ⊥) → (x ≡ z → ⊥) → (y ≡ z → ⊥) → ⊥
  no_third v x y z fan a b c xy xz yz =
      let many = fan.least 3 (of_three x y z) (record {
        each = λ j l. three_each (Leaves (half_edges faces) v) a b c j;
        apart = search rules;
      }) in
      omega arith

  -- A vertex with two faces, from its first dart on.
  two_faces : (v x : ℕ) → HasFan (half_edges faces) v 2 → x < darts faces → from_of faces x ≡ v
      → twin_of faces (prev_of x) ≡ None → (t : ℕ) × (twin_of faces x ≡ Some t) × (twin_of faces (next_of t) ≡ None)
  two_faces v x fan lx at lone = elim (none_or _) [
    | inl is ↦
        let few = fan.most 1 (λ j. x) (λ z l. let t = laws.one_fan x z lx l.low (cc) in
        (0, omega arith, alone is t.0 z t.1)) in
        absurd (omega arith)
    | inr (t, is) ↦
        let lt = laws.twin_low x t lx is in
        let ly = laws.next_low t lt in
        let ay = (laws.twin_ends x t lx is).1 ∙ at in
        let x_y : x ≡ next_of t → ⊥ = λ e. cc (laws.prev_next t, laws.twin_twin x t lx is) in
        elim (none_or _) [
          | inl none ↦ (t, is, none)
          | inr (s, some) ↦
              let ls = laws.twin_low _ s ly some in
              let back = laws.twin_twin _ s ly some in
              absurd (no_third v x _ _ fan (record { low = lx; at = at }) (record { low = ly; at = ay })
              (record { low = laws.next_low s ls; at = (laws.twin_ends _ s ly some).1 ∙ ay }) x_y
              (λ e. cc (laws.prev_next s)) (λ e. x_y (cc (next_same laws t s e, laws.twin_twin x t lx is))))
        ]
  ]
    where
      alone : twin_of faces x ≡ None → (n z : ℕ) → Turns (half_edges faces) x z n → x ≡ z
      alone none zero z t = t
      alone none (suc n) z t =
          let e = alone none n t.0 t.1 in
          elim t.3 [
            | inl r ↦ absurd (cc (e, r))
            | inr r ↦ absurd (cc (e, laws.twin_twin _ t.0 (laws.prev_low z t.2) r))
          ]

  -- A dart at a boundary vertex with two faces is the first one or the second one.
  pub record IsSecond (d a : ℕ) : Type 0 where
    pub turn : twin_of faces (prev_of d) ≡ Some a
    pub apart : d ≡ a → ⊥
    pub lone : twin_of faces (prev_of a) ≡ None
    pub end : twin_of faces d ≡ None

  first_or_second : (d : ℕ) → d < darts faces → is_inner faces (from_of faces d) ≡ false
      → HasFan (half_edges faces) (from_of faces d) 2 → (twin_of faces (prev_of d) ≡ None) ⊎ ((a : ℕ) × IsSecond d a)
  first_or_second d ld outer fan = elim (none_or (twin_of faces (prev_of d))) [
    | inl is ↦ inl is
    | inr (a, is) ↦
        let la = turn_low laws d a ld is in
        let aa = turn_from laws d a ld is in
        let d_a : d ≡ a → ⊥ = λ e. no_fix laws d ld (cc) in
        let back = laws.twin_twin (prev_of d) a (laws.prev_low d ld) is in
        elim (none_or (twin_of faces (prev_of a))) [
          | inl none ↦ search (rules, two_faces)
          | inr (b, some) ↦ elim (cases_eq b d) [
            | inl e ↦ absurd (cc (closed a la is back (some ∙ ap Some e)))
            | inr ne ↦ absurd (no_third _ d a b fan (record { low = ld; at = refl }) (record { low = la; at = aa })
                (record { low = turn_low laws a b la some; at = turn_from laws a b la some ∙ aa }) d_a
                (λ e. ne (sym e)) (λ e. no_fix laws a la (cc)))
          ]
        ]
  ]
    where
      -- Closed with two darts, the vertex would be inner.
      closed : (a : ℕ) → a < darts faces → twin_of faces (prev_of d) ≡ Some a → twin_of faces a ≡ Some (prev_of d)
          → twin_of faces (prev_of a) ≡ Some d → is_inner faces (from_of faces d) ≡ true
      closed a la is back home = inner_from faces _ (λ x lx ends. elim ends [
        | inl s ↦ (of x lx s).0
        | inr s ↦ let t = (of _ (laws.next_low x lx) s).1 in (t.0, cc (laws.prev_next x))
      ])
        where
          of : (x : ℕ) → x < darts faces → from_of faces x ≡ from_of faces d
              → ((t : ℕ) × (twin_of faces x ≡ Some t)) × ((t : ℕ) × (twin_of faces (prev_of x) ≡ Some t))
          of x lx s =
              let t = laws.one_fan d x ld lx (sym s) in
              elim (two_darts laws d a ld la is home t.0 x t.1) [
                | inl s ↦
                    let over = laws.twin_twin _ d (laws.prev_low a la) home in
                    ((prev_of a, cc), (a, cc))
                | inr s ↦ ((prev_of d, cc (s, back)), (d, cc))
              ]

  -- The number of faces at a regular boundary vertex.
  boundary_fan : (v : ℕ) → is_regular faces v ≡ true → is_inner faces v ≡ false → HasFan (half_edges faces) v 2
  boundary_fan v regular outer = search (rules, has_fan)

  -- At the first dart of a boundary vertex that is no node the cut does not lie.
  no_first : (d : ℕ) → d < darts faces → is_on marks d ≡ true → HasFan (half_edges faces) (from_of faces d) 2
      → twin_of faces (prev_of d) ≡ None → is_node faces marks (from_of faces d) ≡ false → ⊥
  no_first d ld on fan lone off =
      let (t, is, end) = two_faces _ d fan ld refl lone in
      let ly = laws.next_low t (laws.twin_low d t ld is) in
      two_and_one _ d _ d (ld, refl, on)
      (ly, (laws.twin_ends d t ld is).1, full.boundary _ ly end) ld refl (λ e. cc) lone off

  through : (d t : ℕ) → d < darts faces → is_on marks d ≡ true → twin_of faces d ≡ Some t
      → is_node faces marks (from_of faces d) ≡ false → HasCross (half_edges faces) d
  through d t ld on tw off = search (rules, regular_cross, boundary_fan, first_or_second, no_first)

  along : (d : ℕ) → d < darts faces → twin_of faces d ≡ None → is_node faces marks (from_of faces (next_of d)) ≡ false
      → (t : ℕ) × (twin_of faces (next_of d) ≡ Some t) × (twin_of faces (next_of t) ≡ None)
  along d ld lone off = elim (cases_Bool (is_inner faces (to_of faces d))) [
    | inl inner ↦ let t = inner_twin faces _ inner d ld (inr refl) in absurd (cc (t.1))
    | inr outer ↦ two_faces _ _ (boundary_fan _ (regular_at _ off)
        outer) (laws.next_low d ld) refl (cc (laws.prev_next d))
  ]

  corner : (d : ℕ) → d < darts faces → is_on marks d ≡ true → is_on marks (prev_of d) ≡ true
      → is_node faces marks (from_of faces d) ≡ true
  corner d ld on before = true_from_ne_false _ (λ off. elim (cases_Bool (is_inner _ (from_of faces d))) [
    | inl inner ↦
        let (a, b, c, is) = regular_cross faces laws d ld inner (regular_at _ off) in
        by_cross off a b c is
    | inr outer ↦
        let fan = boundary_fan _ (regular_at _ off) outer in
        elim (first_or_second d ld outer fan) [
          | inl lone ↦ no_first d ld on fan lone off
          | inr (a, second) ↦
              let la = turn_low laws d a ld second.turn in
              let aa = turn_from laws d a ld second.turn in
              let on_a = full.alike _ a (laws.prev_low d ld) second.turn ∙ before in
              two_and_one _ d a a (ld, refl, on) (la, aa, on_a) la aa second.apart second.lone off
        ]
  ])
    where
      -- With four faces the cut goes on from the twin of d.
      by_cross : is_node faces marks (from_of faces d) ≡ false → (a b c : ℕ) → IsCross (half_edges faces) d a b c → ⊥
      by_cross off a b c is = elim (full.gaps _ (laws.prev_low c lc)
          (cc (full.alike (prev_of c) d (laws.prev_low c lc) is.last))) [
            | inl c_on ↦ third c (lc, at_c laws d a b c ld is, cc (laws.next_prev c, c_on))
                (differ 0 3 (omega arith) (omega arith) (λ e. omega arith))
                (differ 1 3 (omega arith) (omega arith) (λ e. omega arith))
            | inr g ↦
                let same : g.0
                ≡ prev_of b = cc (g.1, laws.next_prev c, laws.twin_twin _ c (laws.prev_low b lb) is.third) in
                third b (lb, at_b laws d a b c ld is, cc (same, laws.next_prev b, g.2))
                (differ 0 2 (omega arith) (omega arith) (λ e. omega arith))
                (differ 1 2 (omega arith) (omega arith) (λ e. omega arith))
          ]
        where
          lb : b < darts faces
          lb = low_b laws d a b c ld is

          lc : c < darts faces
          lc = low_c laws d a b c ld is

          differ : (i j : ℕ) → i < 4 → j < 4 → (i ≡ j → ⊥) → of_four d a b c i ≡ of_four d a b c j → ⊥
          differ i j li lj ne e = ne (four_apart laws d a b c ld is i j li lj e)

          third : (z : ℕ) → IsOn (from_of faces d) z → (d ≡ z → ⊥) → (a ≡ z → ⊥) → ⊥
          third z at_z d_z a_z = three_leave _ d a z (ld, refl, on) (
            low_a laws d a b c ld is,
            at_a laws d a b c ld is,
            full.alike _ a (laws.prev_low d ld) is.first ∙ before,
          ) at_z (differ 0 1 (omega arith) (omega arith) (λ e. omega arith)) d_z a_z off

  pub are_nodes : AreNodes (half_edges faces) (is_on marks) (is_node faces marks)
  are_nodes = record { through = through; along = along; corner = corner }
