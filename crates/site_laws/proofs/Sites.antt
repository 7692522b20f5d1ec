-- A manifold list of faces is a terrain, and its start darts are starts.
use Rattle.std.proofs.Common.{rules, ◌≡◌, ◌⊎◌, ℕ, ◌<◌, true, false, not, eqb, ◌&&◌, ◌||◌, Some, None, is_some, sym, ap}
use Rattle.std.proofs.Common.{◌∙◌, refl, inl, inr}
use Rattle.std.proofs.lemmas.Bool.{or_left, or_right, or_cases, and_from, and_parts, not_from_false}
use Rattle.std.proofs.lemmas.Bool.{false_from_ne_true, not-false, not-true}
use Rattle.{std.proofs.lemmas.Option.none-some, mesh_laws.proofs.Chains.manifold_law, mesh_laws.proofs.Flood.all_below}
use Rattle.def_mesh.specs.Darts.{darts, all_darts, from_of, to_of, next_of, prev_of, twin_of}
use Rattle.def_mesh.specs.{Faces.Faces, Manifold.IsManifold, Vertices.vertex_count, Kinds.is_inner}
use Rattle.def_mesh.specs.{Kinds.is_regular, Kinds.is_singular, Kinds.is_reflex, Components.seeds, Components.is_start}
use Rattle.def_mesh.specs.{Components.start_darts, HalfEdges.IsQuadManifold, HalfEdges.half_edges}
use Rattle.face_laws.proofs.FullCuts.{inner_twin, regular_cross}
use Rattle.motion_laws.proofs.Among.{cases_Option, not_all, range_among, range_apart, apart_filter}
use Rattle.motion_laws.proofs.{Order.IsCourse, Bits.IsTerrain, Bits.IsStarted}
use Rattle.site_laws.proofs.Sources.{three_faces, start_in, start_of, found}
use Rattle.{std.specs.List.list_any, def_cut.specs.Motion.is_among, def_cut.specs.Traced.terrain_of}

module _ (faces : Faces) (m : IsManifold faces) where
  abbrev laws : IsQuadManifold (half_edges faces)
  laws = manifold_law faces m

  -- An edge with one dart lies at the boundary.
  at_boundary : (d v : ℕ) → d < darts faces → twin_of faces d ≡ None → (from_of faces d ≡ v) ⊎ (to_of faces d ≡ v)
      → not (is_inner faces v) ≡ true
  at_boundary d v l w ends = not_from_false _ (false_from_ne_true _ (λ inner.
      let t = inner_twin faces v inner d l ends in
      none-some t.0 (sym w ∙ t.1)))

  -- And a boundary vertex has one.
  rim : (v : ℕ) → is_inner faces v ≡ false → (e : ℕ) × (e < darts faces) × (from_of faces e ≡ v)
      × ((twin_of faces e ≡ None) ⊎ (twin_of faces (prev_of e) ≡ None))
  rim v off = search (rules, not_all, range_among)

  pub terrain : IsTerrain (terrain_of faces)
  terrain = record {
    half = laws;
    edged = λ d l w. (at_boundary d (from_of faces d) l w (inl refl), at_boundary d (to_of faces d) l w (inr refl));
    crossed = λ d l inner regular. regular_cross faces laws d l (not-false _ inner) (search rules);
    rimmed = λ d l out. rim (from_of faces d) (not-true _ out);
  }
    where
      sing : (d : ℕ) → is_inner faces (from_of faces d) ≡ true → is_singular faces (from_of faces d) ≡ false
          → not (is_regular faces (from_of faces d)) ≡ false
      sing d inner s = sym (ap (λ b. b && not (is_regular faces (from_of faces d))) inner) ∙ s

  -- All darts with a twin that leave a vertex start, or none.
  pub all_start : (d e t : ℕ) → e < darts faces → is_among d (start_darts faces) ≡ true
      → from_of faces e ≡ from_of faces d → twin_of faces e ≡ Some t → is_among e (start_darts faces) ≡ true
  all_start d e t le k at w = start_in faces e le (elim (or_cases (is_singular faces (from_of faces d)) _
      (start_of faces d k).1) [
        | inl s ↦ or_left _ _ (ap (is_singular faces) at ∙ s)
        | inr r ↦ or_right (is_singular faces (from_of faces e)) _ (and_from _ _ (ap is_some w)
            (ap (λ u. is_reflex faces u || list_any (λ v. eqb v u) (seeds faces)) at
            ∙ (and_parts (is_some (twin_of faces d)) _ r).1))
      ])

  -- Where a dart ends at the boundary, the next one starts or the boundary goes on.
  sides : (d : ℕ) → d < darts faces → is_inner faces (to_of faces d) ≡ false → (is_among (next_of d) (start_darts faces)
      ≡ true) ⊎ ((twin_of faces (next_of d) ≡ None) ⊎ ((t : ℕ) × (twin_of faces (next_of d) ≡ Some t) ×
      (twin_of faces (next_of t) ≡ None)))
  sides d low out = elim (cases_Option (twin_of faces (next_of d))) [
    | inl w ↦ inr (inl w)
    | inr (t, w) ↦ elim (cases_Option (twin_of faces (next_of t))) [
      | inl v ↦ inr (inr (t, w, v))
      | inr (u, v) ↦
          let many = three_faces faces laws (next_of d) t u (laws.next_low d low) w v out in
          inl (start_in faces (next_of d) (laws.next_low d low) (search rules))
    ]
  ]

  pub started : IsStarted (terrain_of faces) (start_darts faces)
  started = record {
    apart = apart_filter (is_start faces (seeds faces)) (all_darts faces) (range_apart 0 (darts faces));
    low = λ d k. (start_of faces d k).0;
    all = λ d e t ld le. all_start d e t le;
    found = found faces m;
    singular = λ d l s. start_in faces d l (or_left _ _ s);
    sided = λ d l out. sides d l (not-true _ out);
  }

  -- Riders move from there.
  pub course : IsCourse (terrain_of faces) (start_darts faces) (vertex_count faces)
  course = record { terrain = terrain; begin = started; few = all_below faces }
