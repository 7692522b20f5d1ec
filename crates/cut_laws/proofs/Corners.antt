-- Each class of faces of a traced cut has a corner: it lies at the start of a trail, or where another trail ends on it.
use Rattle.std.proofs.Common.{arith}
use Rattle.std.proofs.Common.{rules, ◌≡◌, ◌⊎◌, ℕ, zero, suc, ◌<◌, Bool, true, Some, ◌∙◌, ap, refl, inl, inr}
use Rattle.{std.proofs.lemmas.Bool.cases_Bool, cut_laws.proofs.Folds.spin_next, cut_laws.proofs.Folds.turn_low}
use Rattle.def_mesh.specs.HalfEdges.{HalfEdges, IsQuadManifold}
use Rattle.def_cut.specs.{Trails.Trail, Trails.Joins, Trails.HasSources, Trails.IsTraced, Cuts.Cut}
use Rattle.def_cut.specs.{Cuts.Links, Cuts.IsCorner, Laws.CornerLaw, Steps.spin}
use Rattle.cut_laws.proofs.Classes.{AreLinked, links_join, step_next, step_over, step_prev, links_low}

-- The class of d has a corner.
abbrev pub CornerOf : (mesh : HalfEdges) (cut : Cut) (d : ℕ) → Type 0
CornerOf mesh cut d = (e : ℕ) × (n : ℕ) × Links mesh cut d e n × IsCorner mesh cut e

module _ {mesh : HalfEdges} (laws : IsQuadManifold mesh) {start cut : ℕ → Bool} (sources : HasSources mesh start)
    (traced : IsTraced mesh start cut) where
  from_class : (d e : ℕ) → AreLinked mesh cut d e → CornerOf mesh cut e → CornerOf mesh cut d
  from_class d e l c = let (n, j) = links_join laws cut d e c.0 l (c.1, c.2) in (c.0, n, j, c.3)

  -- Back along a trail on its own side,
  beside : (k d : ℕ) → d < mesh.count → cut d ≡ true → Trail mesh start cut d k → CornerOf mesh cut d
  beside zero d ld on trail = search rules
  beside (suc k) d ld on trail =
      let rest = beside k _ trail.2 trail.3 trail.1 in
      elim (cases_Bool (cut (mesh.prev d))) [
        | inl before ↦ (d, 0, refl, (ld, on, before))
        | inr off ↦
            let back = ap mesh.twin (cc (laws.prev_next trail.4.0))
            ∙ laws.twin_twin _ _ (laws.next_low _ trail.2) trail.4.1 in
            let over = step_over laws _ d _ _ (step_prev laws cut d d (0, refl)) off back in
            from_class d _ (rw (laws.prev_next _) at (step_prev laws cut d _ over)) rest
      ]

  -- and back along it on the other side.
  next_corner : (d : ℕ) → d < mesh.count → cut d ≡ true → cut (mesh.next d) ≡ true → CornerOf mesh cut d
  next_corner d ld on next = grind (arith, step_next laws cut d d (0, refl))

  across : (k d t : ℕ) → d < mesh.count → cut d ≡ true → mesh.twin d ≡ Some t → Trail mesh start cut t k
      → CornerOf mesh cut d
  across zero d t ld on tw trail = next_corner d ld on (grind arith)
  across (suc k) d t ld on tw (c, trail, lc, onc, (u, tu, ui), (a, b, e, is)) = elim (cases_Bool (cut (mesh.next d))) [
    | inl next ↦ next_corner d ld on next
    | inr off ↦
        let second : mesh.twin c ≡ Some b = grind (arith, laws.prev_next) in
        let lb = laws.twin_low c b lc second in
        let over : mesh.twin (mesh.next d) ≡ Some (mesh.prev b) = grind (
          arith,
          laws.next_prev,
          turn_low laws b e lb is.third,
          laws.prev_low,
          laws.twin_twin d t ld tw,
          laws.twin_twin (mesh.prev b) e,
          laws.twin_twin (mesh.prev e) t,
        ) in
        let linked = step_over laws _ d _ _ (step_next laws cut d d (0, refl)) off over in
        let there = rw (laws.next_prev b) at (step_next laws _ d _ linked) in
        let back = laws.twin_twin c b lc second in
        from_class d b there (across k b c lb (traced.alike c b lc second ∙ onc) back trail)
  ]

  -- A walk through the component stays in the class, or meets a cut edge with two darts.
  along : (d n e : ℕ) → d < mesh.count → Joins mesh d e n → (AreLinked mesh cut d e) ⊎ CornerOf mesh cut d
  along d zero e ld j = inl (0, j)
  along d (suc n) e ld (c, j, s) = elim (along d n c ld j) [
    | inr found ↦ inr found
    | inl l ↦ elim s [
      | inl s ↦ inl (rw s (step_next laws cut d c l))
      | inr tw ↦ elim (cases_Bool (cut c)) [
        | inr off ↦ inl (step_over laws cut d c e l off tw)
        | inl on ↦
            let low = links_low laws cut d c l.0 ld l.1 in
            let t = traced.tracked c e low tw on in
            inr (from_class d c l (search (rules, beside t.0, across t.0, t)))
      ]
    ]
  ]

pub corner_law : CornerLaw
corner_law mesh start cut laws sources traced d ld =
    let s = sources d ld in
    elim (along laws sources traced d s.1 s.0 ld s.2) [ inr found ↦ found | inl l ↦ search (rules, links_low) ]

-- Steps round a face undo each other and follow each other.

module _ {mesh : HalfEdges} (laws : IsQuadManifold mesh) where
  pub spin_back : (k x : ℕ) → (m : ℕ) × (x ≡ spin mesh m (spin mesh k x))
  spin_back zero x = (0, refl)
  spin_back (suc k) x = let (m, is) = spin_back k x in
      (suc (suc (suc m)), cc (is, laws.four_sides (spin mesh m (spin mesh k x)), spin_next laws m (spin mesh k x)))

  pub spin_join : (m l y : ℕ) → (n : ℕ) × (spin mesh m (spin mesh l y) ≡ spin mesh n y)
  spin_join zero l y = (l, refl)
  spin_join (suc m) l y = let r = spin_join m l y in
      (suc r.0, ap mesh.next r.1)

  -- Two darts with a side in common are sides of each other.
  pub spun : (k l x y : ℕ) → spin mesh k x ≡ spin mesh l y → (n : ℕ) × (x ≡ spin mesh n y)
  spun k l x y e =
      let b = spin_back k x in
      grind (arith, spin_join b.0 l y)
