-- The darts round a vertex, and that each component of a manifold list has a source: a start dart, or a vertex with one
-- face.
use Rattle.std.proofs.Common.{rules, ◌≡◌, ℕ, zero, suc, ◌*◌, ◌/◌, ◌<◌, ◌≤◌, Bool, true, false, eqb, ◌&&◌, ◌||◌, List}
use Rattle.std.proofs.Common.{[], ◌∷◌, length, is_some, sym, subst, ap, ◌∙◌, refl, inl, inr, arith, ◌≢◌, ◌⊎◌, get_or}
use Rattle.std.proofs.{Common.Some, Common.None, lemmas.Bool.false≢true, lemmas.Bool.cases_eq, lemmas.Option.same_Some}
use Rattle.std.proofs.lemmas.Bool.{cases_Bool, cases_lt, eq-eqb, or_left, or_right, and_from, not_from_false}
use Rattle.def_mesh.specs.Darts.{darts, all_darts, from_of, is_reverse, next_of, prev_of, twin_of}
use Rattle.def_mesh.specs.Components.{share_edge, is_marked, component_of, least_face, least_faces, vertices_in}
use Rattle.def_mesh.specs.Components.{is_ring, is_first, is_seed_in, seeds, is_start, start_darts}
use Rattle.def_mesh.specs.Vertices.{faces_at, vertex_count, all_vertices, fan_of}
use Rattle.def_mesh.specs.Kinds.{is_inner, is_regular, is_singular, is_reflex}
use Rattle.def_mesh.specs.HalfEdges.{HalfEdges, IsQuadManifold, half_edges, Turns}
use Rattle.def_cut.specs.{Motion.is_among, Steps.spin, Trails.Joins, Trails.IsSource}
use Rattle.mesh_laws.proofs.Flood.{all_below, Shares, sound, own_mark, same_component, least_low, least_marked}
use Rattle.mesh_laws.proofs.Chains.{manifold_law, is_fan, reverse_twin, twin_found}
use Rattle.face_laws.proofs.FullCuts.{same_face, has_fan, inner_from}
use Rattle.motion_laws.proofs.Among.{all_at, among_here, among_range, any_at, cases_Option, from_filter, in_filter}
use Rattle.cut_laws.proofs.Folds.{prev_three, turn_from, turn_low}
use Rattle.{std.specs.List.list_any, std.specs.List.range_with_len, def_mesh.specs.Faces.Faces}
use Rattle.{def_mesh.specs.Manifold.IsManifold, list_laws.proofs.Filters.any_in_range}
use Rattle.{list_laws.proofs.Filters.range_any, mesh_laws.proofs.Flood.least_again, motion_laws.proofs.Among.not_all}
use Rattle.{motion_laws.proofs.Among.range_among, cut_laws.proofs.Crosses.Leaves, cut_laws.proofs.Crosses.no_fix}

-- Chains of joined darts, one after another, and back.
pub joins_join : (m : HalfEdges) (d e f i j : ℕ) → Joins m d e i → Joins m e f j → (k : ℕ) × Joins m d f k
joins_join m d e f i zero a b = (i, subst (λ (x : ℕ). Joins m d x i) b a)
joins_join m d e f i (suc j) a b = let r = joins_join m d e b.0 i j a b.1 in (suc r.0, (b.0, r.1, b.2))

-- Two darts, or three.
abbrev pair : (x y k : ℕ) → ℕ
pair x y zero = x
pair x y (suc k) = y

abbrev triple : (x y z k : ℕ) → ℕ
triple x y z zero = x
triple x y z (suc k) = pair y z k

module _ (mesh : HalfEdges) (laws : IsQuadManifold mesh) where
  -- Turns join.
  pub joins_turns : (d e n : ℕ) → d < mesh.count → Turns mesh d e n → (k : ℕ) × Joins mesh d e k
  joins_turns d e zero l t = (0, t)
  joins_turns d e (suc n) l t =
      let c = t.0 in
      let j = joins_turns d c n l t.1 in
      let last : Joins mesh c (mesh.prev c) 3 = rw (prev_three laws c)
      (mesh.next (mesh.next c), (mesh.next c, (c, refl, inl refl), inl refl), inl refl) in
      elim t.3 [
        | inl w ↦
            let a = joins_join mesh d c (mesh.prev c) j.0 3 j.1 last in
            (suc a.0, (mesh.prev c, a.1, inr w))
        | inr w ↦
            let back = laws.twin_twin (mesh.prev e) c (laws.prev_low e t.2) w in
            (suc (suc j.0), (mesh.prev e, (c, j.1, inr back), inl (sym (laws.next_prev e))))
      ]

  -- Of two darts that leave a vertex some has a twin, and so does some dart there.
  pub twin_there : (d e n : ℕ) → d < mesh.count → d ≢ e → Turns mesh d e n → (x : ℕ) × (t : ℕ) × (x < mesh.count)
      × (mesh.from x ≡ mesh.from d) × (mesh.twin x ≡ Some t)
  twin_there d e zero l ne t = absurd (ne t)
  twin_there d e (suc n) l ne t =
      let c = t.0 in
      let rest = λ (other : d ≢ t.0). twin_there d c n l other t.1 in
      elim (cases_eq d c) [
        | inr ne ↦ rest ne
        | inl same ↦
            let low : c < mesh.count = rw (← same) l in
            elim t.3 [
              | inl w ↦ (
                e,
                mesh.prev c,
                t.2,
                turn_from laws c e low w ∙ ap mesh.from (sym same),
                laws.twin_twin (mesh.prev c) e (laws.prev_low c low) w,
              )
              | inr w ↦
                  (c, mesh.prev e, low, ap mesh.from (sym same), laws.twin_twin (mesh.prev e) c (laws.prev_low e t.2) w)
            ]
      ]

module _ (faces : Faces) (laws : IsQuadManifold (half_edges faces)) where
  -- A dart over the twin of d at the vertex that d leaves.
  over : (d t : ℕ) → d < darts faces → twin_of faces d ≡ Some t → (next_of t < darts faces)
      × (from_of faces (next_of t) ≡ from_of faces d) × (next_of t ≢ d)
  over d t l w = (laws.next_low t (laws.twin_low d t l w), (laws.twin_ends d t l w).1, search rules)

  -- With one face at a vertex, both its edges there have one dart.
  pub lone_face : (d : ℕ) → d < darts faces → faces_at faces (from_of faces d) ≤ 1 → (twin_of faces d ≡ None)
      × (twin_of faces (prev_of d) ≡ None)
  lone_face d l few = (
    elim (cases_Option _) [ inl w ↦ w | inr (t, w) ↦ let o = over d t l w in absurd (two (next_of t) o.0 o.1 o.2) ],
    elim (cases_Option _) [
      | inl w ↦ w
      | inr (y, w) ↦ absurd (two y (turn_low laws d y l w)
          (turn_from laws d y l w) (λ e. no_fix laws d l (w ∙ ap Some e)))
    ],
  )
    where
      two : (x : ℕ) → x < darts faces → from_of faces x ≡ from_of faces d → x ≢ d → ⊥
      two x lx at ne =
          let many = (has_fan _ _).least 2 (pair d x) (record { each = each; apart = apart }) in
          omega (arith, many, few)
        where
          each : (j : ℕ) → j < 2 → Leaves (half_edges faces) (from_of faces d) (pair d x j)
          each zero h = record { low = l; at = refl }
          each (suc j) h = record { low = lx; at = at }

          apart : (i j : ℕ) → i < 2 → j < 2 → pair d x i ≡ pair d x j → i ≡ j
          apart zero zero a b e = refl
          apart zero (suc j) a b e = absurd (ne (sym e))
          apart (suc i) zero a b e = absurd (ne e)
          apart (suc i) (suc j) a b e = omega arith

  -- With two faces or more, some dart there has a twin.
  pub some_twin : (d : ℕ) → d < darts faces → 2 ≤ faces_at faces (from_of faces d) → (x : ℕ) × (t : ℕ)
      × (x < darts faces) × (from_of faces x ≡ from_of faces d) × (twin_of faces x ≡ Some t)
  some_twin d l many =
      let at = get_or (fan_of faces (from_of faces d)) in
      let fan = is_fan faces (from_of faces d) (fan_of faces (from_of faces d)) refl in
      let to : (k : ℕ) → k < length (fan_of faces (from_of faces d)) → d ≢ get_or (fan_of faces (from_of faces d)) k 0
      → (x : ℕ) × (t : ℕ) × (x < darts faces) × (from_of faces x ≡ from_of faces d) × (twin_of faces x ≡ Some t) =
      λ k h ne.
      let t = laws.one_fan d (at k 0) l (fan.dart k h) (sym (fan.leaves k h)) in
      twin_there (half_edges faces) laws d (at k 0) t.0 l ne t.1 in
      elim (cases_eq d (at 0 0)) [ inr ne ↦ to 0 (omega arith) ne | inl e ↦ to 1 (omega arith) (search rules) ]

  -- Three darts that turn into each other one after another.
  module _ (x t u : ℕ) (low : x < darts faces) (first : twin_of faces x ≡ Some t)
      (second : twin_of faces (next_of t) ≡ Some u) where
    nt : (next_of t < darts faces) × (from_of faces (next_of t) ≡ from_of faces x) × (next_of t ≢ x)
    nt = over x t low first

    nu : (next_of u < darts faces) × (from_of faces (next_of u) ≡ from_of faces (next_of t)) × (next_of u ≢ next_of t)
    nu = over (next_of t) u nt.0 second

    -- Two that turn into each other are all at their vertex.
    round : next_of u ≡ x → is_inner faces (from_of faces x) ≡ true
    round same = inner_from faces (from_of faces x) each
      where
        before : twin_of faces (prev_of x) ≡ Some (next_of t)
        before = laws.twin_twin (next_of t) (prev_of x) nt.0
            (second ∙ ap Some (sym (laws.prev_next u) ∙ ap prev_of same))

        t_twin : twin_of faces (prev_of (next_of t)) ≡ Some x
        t_twin = ap (twin_of faces) (laws.prev_next t) ∙ laws.twin_twin x t low first

        turn_is : (e p q y : ℕ) → twin_of faces (prev_of e) ≡ Some p → twin_of faces e ≡ Some q → next_of q ≡ p
            → y < darts faces → (twin_of faces (prev_of e) ≡ Some y) ⊎ (twin_of faces (prev_of y) ≡ Some e) → y ≡ p
        turn_is e p q y before over same l (inl w) = same_Some y p (sym w ∙ before)
        turn_is e p q y before over same l (inr w) = sym (laws.next_prev y) ∙ (search rules)

        all : (y n : ℕ) → Turns (half_edges faces) x y n → (y ≡ x) ⊎ (y ≡ next_of t)
        all y zero s = inl (sym s)
        all y (suc n) s = elim (all s.0 n s.1) [
          | inl e ↦ inr (turn_is x (next_of t) t y before first refl s.2 (rw e at s.3))
          | inr e ↦ inl (turn_is (next_of t) x u y t_twin second same s.2 (rw e at s.3))
        ]

        leaves : (y : ℕ) → y < darts faces → from_of faces y ≡ from_of faces x → (y ≡ x) ⊎ (y ≡ next_of t)
        leaves y l at = let s = laws.one_fan x y low l (sym at) in all y s.0 s.1

        each : (y : ℕ) → y < darts faces → (from_of faces y ≡ from_of faces x) ⊎
            (from_of faces (next_of y) ≡ from_of faces x) → (z : ℕ) × (twin_of faces y ≡ Some z)
        each y l (inl at) = elim (leaves y l at)
            [ inl e ↦ (t, ap (twin_of faces) e ∙ first) | inr e ↦ (u, ap (twin_of faces) e ∙ second) ]
        each y l (inr at) = elim (leaves (next_of y) (laws.next_low y l) at) [
          | inl e ↦ (next_of t, ap (twin_of faces) (sym (laws.prev_next y) ∙ ap prev_of e) ∙ before)
          | inr e ↦ (x, ap (twin_of faces) (sym (laws.prev_next y) ∙ ap prev_of e) ∙ t_twin)
        ]

    -- So at the boundary there are three.
    pub three_faces : is_inner faces (from_of faces x) ≡ false → 3 ≤ faces_at faces (from_of faces x)
    three_faces off = (has_fan _ _).least 3 (triple x (next_of t) (next_of u)) (record { each = each; apart = apart })
      where
        ne : next_of u ≢ x
        ne e = false≢true (sym off ∙ round e)

        each : (j : ℕ) → j < 3 → Leaves (half_edges faces) (from_of faces x) (triple x (next_of t) (next_of u) j)
        each zero h = record { low = low; at = refl }
        each (suc zero) h = record { low = nt.0; at = nt.1 }
        each (suc (suc j)) h = record { low = nu.0; at = nu.1 ∙ nt.1 }

        apart : (i j : ℕ) → i < 3 → j < 3 → triple x (next_of t) (next_of u) i ≡ triple x (next_of t) (next_of u) j
            → i ≡ j
        apart zero zero a b e = refl
        apart zero (suc zero) a b e = absurd (nt.2 (sym e))
        apart zero (suc (suc j)) a b e = absurd (ne (sym e))
        apart (suc zero) zero a b e = absurd (nt.2 e)
        apart (suc zero) (suc zero) a b e = refl
        apart (suc zero) (suc (suc j)) a b e = absurd (nu.2 (sym e))
        apart (suc (suc i)) zero a b e = absurd (ne e)
        apart (suc (suc i)) (suc zero) a b e = absurd (nu.2 e)
        apart (suc (suc i)) (suc (suc j)) a b e = omega arith

-- Going round a face joins.
joins_spin : (mesh : HalfEdges) (k x : ℕ) → Joins mesh x (spin mesh k x) k
joins_spin mesh zero x = refl
joins_spin mesh (suc k) x = (spin mesh k x, joins_spin mesh k x, inl refl)

-- Among the starts.
pub start_in : (faces : Faces) (e : ℕ) → e < darts faces → is_start faces (seeds faces) e ≡ true
    → is_among e (start_darts faces) ≡ true
start_in faces e l s = search (rules, in_filter, among_range)

pub start_of : (faces : Faces) (e : ℕ) → is_among e (start_darts faces) ≡ true → (e < darts faces)
    × (is_start faces (seeds faces) e ≡ true)
start_of faces e m = search (rules, from_filter, range_among)

module _ (faces : Faces) (m : IsManifold faces) where
  abbrev mesh : HalfEdges
  mesh = half_edges faces

  abbrev laws : IsQuadManifold (half_edges faces)
  laws = manifold_law faces m

  abbrev start : ℕ → Bool
  start e = is_among e (start_darts faces)

  abbrev Joined : (x y : ℕ) → Type 0
  Joined x y = (k : ℕ) × Joins (half_edges faces) x y k

  -- A source is joined to e.
  abbrev HasSource : ℕ → Type 0
  HasSource e = (x : ℕ) × (n : ℕ) × Joins (half_edges faces) e x n × IsSource (half_edges faces)
      (λ x. is_among x (start_darts faces)) x

  joins_face : (x y : ℕ) → x / 4 ≡ y / 4 → Joined x y
  joins_face x y e =
      let s = same_face faces laws x y e in
      (s.0, subst (λ (z : ℕ). Joins mesh x z s.0) (sym s.1) (joins_spin mesh s.0 x))

  -- A shared edge joins the darts of two faces.
  joins_share : (f g x y : ℕ) → f < length faces → g < length faces → share_edge faces f g ≡ true → x / 4 ≡ f
      → y / 4 ≡ g → Joined x y
  joins_share f g x y lf lg s xf yg =
      let (d, pl, ph, ps) = range_any (λ d. list_any (is_reverse faces d) (range_with_len (4 * g) 4)) (4 * f) 4 s in
      let (e, ql, qh, qs) = range_any (is_reverse faces d) (4 * g) 4 ps in
      let w = twin_found faces m.edges_once d e (reverse_twin faces d e (omega (arith, ph)) qs) in
      let a = joins_face x d (omega (arith, xf, pl, ph)) in
      let b = joins_face e y (omega (arith, yg, ql, qh)) in
      joins_join mesh x e y (suc a.0) b.0 (d, a.1, inr w) b.1

  joins_shares : (f g x y n : ℕ) → Shares faces f g n → x / 4 ≡ f → y / 4 ≡ g → Joined x y
  joins_shares f g x y zero s xf yg = joins_face x y (xf ∙ (s ∙ sym yg))
  joins_shares f g x y (suc n) s xf yg =
      let a = joins_shares f s.0 x (4 * s.0) n s.1 xf (omega arith) in
      let b = joins_share s.0 g (4 * s.0) y s.2 s.3 s.4 (omega arith) yg in
      joins_join mesh x (4 * s.0) y a.0 b.0 a.1 b.1

  -- Where some dart at a vertex with two faces or more would start if it has a twin, one does.
  source_at : (e : ℕ) → e < darts faces → 2 ≤ faces_at faces (from_of faces e) → (is_reflex faces
      (from_of faces e) || list_any (λ v. eqb v (from_of faces e)) (seeds faces)) ≡ true → HasSource e
  source_at e le many why =
      let (x, y, lx, at, w) = some_twin faces laws e le many in
      let t = laws.one_fan e x le lx (sym at) in
      let j = joins_turns mesh laws e x t.0 le t.1 in
      let here : (is_reflex faces (from_of faces x) || list_any (λ v. eqb v (from_of faces x)) (seeds faces)) ≡ true =
      ap (λ u. is_reflex faces u || list_any (λ v. eqb v u) (seeds faces)) at ∙ why in (
        x,
        j.0,
        j.1,
        inl (start_in faces x lx (or_right (is_singular faces (from_of faces x)) _ (and_from _ _ (ap is_some w) here))),
      )

  -- The component of d.
  module _ (d : ℕ) (low : d < darts faces) where
    f_low : d / 4 < length faces
    f_low = omega arith

    abbrev least : ℕ
    least = least_face faces (d / 4)

    abbrev marks : List Bool
    marks = component_of faces (least_face faces (d / 4))

    marks_are : component_of faces (least_face faces (d / 4)) ≡ component_of faces (d / 4)
    marks_are = search (rules, same_component, f_low, least_low, least_marked)

    abbrev is_own : (v e : ℕ) → Bool
    is_own v e = eqb (from_of faces e) v && is_marked marks (e / 4)

    at_vertex : (v : ℕ) → is_among v (vertices_in faces marks) ≡ true → (e : ℕ) × (e < darts faces)
        × (from_of faces e ≡ v) × (is_marked marks (e / 4) ≡ true)
    at_vertex v k = search (rules, from_filter, range_any)

    own_vertex : is_among (from_of faces d) (vertices_in faces marks) ≡ true
    own_vertex = in_filter (λ u. list_any (is_own u) (all_darts faces)) (from_of faces d) (all_vertices faces)
        (among_range 0 (vertex_count faces) (from_of faces d) (omega arith) (omega (arith, all_below faces d low)))
        (any_in_range (is_own (from_of faces d)) 0 (darts faces) d (omega arith) (omega arith) (and_from _ _
        (eq-eqb _ _ refl) (ap (λ (b : List Bool). is_marked b (d / 4)) marks_are ∙ own_mark faces (d / 4) f_low)))

    -- A source that is joined to a dart of the component.
    from_there : (e : ℕ) → e < darts faces → is_marked marks (e / 4) ≡ true → HasSource e → HasSource d
    from_there e le k (x, n, j, s) =
        let p = sound faces (d / 4) (length faces) (e / 4) f_low (omega arith) (search (rules, marks_are)) in
        let a = joins_shares (d / 4) (e / 4) d e p.0 p.1 refl refl in
        search (rules, joins_join)

    -- An irregular vertex.
    irregular : (e : ℕ) → e < darts faces → is_regular faces (from_of faces e) ≡ false → HasSource e
    irregular e le off = elim (cases_Bool (is_inner faces (from_of faces e))) [
      | inl inner ↦ (e, 0, refl, inl (start_in faces e le (or_left _ _ (and_from _ _ inner (not_from_false _ off)))))
      | inr out ↦ elim (cases_lt (faces_at faces (from_of faces e)) 2) [
        | inl few ↦ (e, 0, refl, inr (lone_face faces laws e le (omega arith)))
        | inr many ↦ search (rules, source_at)
      ]
    ]

    ring : is_ring faces marks ≡ true → HasSource d
    ring all = at (vertices_in faces marks) refl
      where
        at : (us : List ℕ) → vertices_in faces marks ≡ us → HasSource d
        at [] is = absurd (false≢true (sym (ap (is_among (from_of faces d)) is) ∙ own_vertex))
        at (v ∷ us) is =
            let in_vs : is_among v (vertices_in faces marks) ≡ true = ap (is_among v) is ∙ among_here v v us refl in
            let seed : is_seed_in faces v marks ≡ true = and_from _ _ (ap (is_first v) is ∙ eq-eqb v v refl) all in
            let is_listed : is_among least (least_faces faces) ≡ true = in_filter _
            least _ (among_range 0 (length faces) _ (omega arith)
            (omega (arith, least_low faces _ f_low))) (eq-eqb _ _ (least_again faces _ f_low)) in
            let regular = all_at (is_regular faces) v _ all in_vs in
            let (e, le, at, k) = at_vertex v in_vs in
            let low_v : v < vertex_count faces = omega (arith, at, all_below faces e le) in
            let listed : is_among v (seeds faces) ≡ true = in_filter _ v (all_vertices faces)
            (among_range 0 _ v (omega arith) (omega arith)) (any_at (λ h. is_seed_in faces v (component_of faces h)) _
            (least_faces faces) is_listed seed) in
            from_there e le k (search (rules, source_at))

    pub found : (x : ℕ) × (n : ℕ) × Joins (half_edges faces) d x n × IsSource (half_edges faces) start x
    found = elim (cases_Bool (is_ring faces marks)) [
      | inl all ↦ ring all
      | inr off ↦
          let v = not_all (is_regular faces) (vertices_in faces marks) off in
          let there = at_vertex v.0 v.1 in
          from_there there.0 there.1 there.3 (irregular there.0 there.1 (ap (is_regular faces) there.2 ∙ v.2))
    ]
