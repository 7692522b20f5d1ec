-- Whether an arc may leave beside marked lines is told at its darts and its two ends.
use Rattle.std.proofs.Common.{◌≡◌, ◌⊎◌, ℕ, zero, suc, ◌-◌, ◌<◌, Bool, true, false, List, sym, ◌∙◌, ap}
use Rattle.std.proofs.Common.{rules, refl, inl, inr, arith, subst}
use Rattle.std.proofs.{lemmas.Bool.false≢true, lemmas.Bool.false_from_ne_true}
use Rattle.def_mesh.specs.{Faces.Faces, Darts.from_of, Darts.next_of, Darts.prev_of}
use Rattle.def_mesh.specs.{HalfEdges.HalfEdges, HalfEdges.IsQuadManifold, HalfEdges.half_edges, Manifold.IsManifold}
use Rattle.def_cut.specs.{Cuts.IsCut, FullCut.is_on, Steps.easts}
use Rattle.def_feature.specs.{Beside.IsCutBeside, Beside.keeps_lines, Marks.AreMarks, Marks.is_break}
use Rattle.def_merge.specs.{Beside.without, Beside.IsEndFree, Beside.IsSpared, Beside.SparedLaw, Joins.IsJoinable}
use Rattle.def_merge.specs.{Joins.IsOnArc, Joins.IsWithout}
use Rattle.cut_laws.proofs.Crosses.{one_of_four, low_a, low_b, low_c, at_a, at_b}
use Rattle.feature_laws.proofs.Breaks.{break_cross, two_ways}
use Rattle.merge_laws.proofs.Beside.{cut_of, left, keeps_from, keeps_of, keeps_to, Turn}
use Rattle.merge_laws.proofs.Joins.{crossed_at, leaves_or_not, less, other_without, still, turned_arc, join_law}
use Rattle.merge_laws.proofs.Sides.{side_low, side_before}
use Rattle.mesh_laws.proofs.Chains.{manifold_law}

module _ (faces : Faces) (m : IsManifold faces) (marks : List Bool) (marked : AreMarks faces marks) (cut : List Bool)
    (beside : IsCutBeside faces marks cut) where
  abbrev mesh : HalfEdges
  mesh = half_edges faces

  abbrev laws : IsQuadManifold (half_edges faces)
  laws = manifold_law faces m

  full : IsCut mesh (is_on cut)
  full = (cut_of faces m beside.full).full

  abbrev IsBreak : ℕ → Type 0
  IsBreak d = is_break faces marks (from_of faces d) ≡ true

  abbrev TurnsAt : List Bool → ℕ → Type 0
  TurnsAt cut d = Turn faces cut (from_of faces d)

  -- Inside an arc no patch has a corner.
  no_turn : {s t n : ℕ} → IsJoinable mesh (is_on cut) s t n → (k : ℕ) → suc k < n → TurnsAt cut (easts mesh s (suc k))
      → ⊥
  no_turn {s} {t} {n} arc k l (e, le, at, on, before) =
      let i = n - suc (suc k) in
      let is = crossed_at laws full arc k i (omega arith) in
      let lx = side_low laws full arc.glued.near (suc k) l in
      grind (
        arith,
        one_of_four laws (easts mesh s (suc k)) _ _ _ lx is e (record { low = le; at = at }),
        side_before laws full arc.glued.near k l,
        side_before laws full arc.glued.far i (omega arith),
        arc.glued.near.inside k l,
        arc.glued.far.inside i (omega arith),
      )

  -- So of the darts that leave a corner of a patch only the first ones lie on the arc.
  first_at : {s t n : ℕ} → IsJoinable mesh (is_on cut) s t n → (d : ℕ) → IsOnArc mesh s t n d → TurnsAt cut d
      → (d ≡ s) ⊎ (d ≡ t)
  first_at arc d (zero, l, e) turn = e
  first_at arc d (suc k, l, inl e) turn = absurd (no_turn arc k l (rw e at turn))
  first_at arc d (suc k, l, inr e) turn = absurd (no_turn (turned_arc laws full arc) k l (rw e at turn))

  -- An arc that begins unmarked is not marked.
  pub unmarked_from : (s t n : ℕ) → IsJoinable mesh (is_on cut) s t n → is_on marks s ≡ false → (k : ℕ) → k < n
      → is_on marks (easts (half_edges faces) s k) ≡ false
  unmarked_from s t n arc off zero l = off
  unmarked_from s t n arc off (suc k) l = false_from_ne_true _ (λ on.
      let i = n - suc (suc k) in
      let is = crossed_at laws full arc k i (omega arith) in
      let lx = side_low laws full arc.glued.near (suc k) l in
      let y = easts mesh s k in
      let ly = side_low laws full arc.glued.near k (omega arith) in
      elim (two_ways faces m marks marked (easts mesh s (suc k)) _ _ _ lx on is) [
        | inl b ↦ cc (
          unmarked_from s t n arc off k (omega arith),
          marked.alike y (easts mesh t (suc i)) ly (arc.glued.across k (suc i) (omega arith)),
        )
        | inr (inl both) ↦ cc (beside.kept (next_of y) (laws.next_low y ly) both.0, arc.glued.near.inside k l)
        | inr (inr broken) ↦ no_turn arc k l ((keeps_of beside).turned (easts mesh s (suc k)) lx broken)
      ])

  module _ {s t n : ℕ} (arc : IsJoinable mesh (is_on cut) s t n) (rest : List Bool)
      (left : IsWithout mesh (is_on cut) (is_on rest) s t n) where
    after : IsCut mesh (is_on rest)
    after = join_law mesh (is_on cut) (is_on rest) s t n laws full arc left

    -- Where the edge opposite to s stays, a corner stays.
    stays : IsEndFree faces marks cut s t → IsBreak s → TurnsAt rest s
    stays free y =
        let (low, on, before) = arc.glued.near.corner in
        let (a, b, c, is) = break_cross faces m marks marked s low y in
        let la = low_a laws s a b c low is in
        let at = at_b laws s a b c low is in
        let opposite = free y a b is.first is.second in
        let clear : IsOnArc mesh s t n b → ⊥ = λ o. elim (first_at arc b o (s, low, sym at, on, before))
        [ inl e ↦ is.apart (sym e) | inr e ↦ opposite.1 e ] in
        let on_b = still laws left b (low_b laws s a b c low is) clear opposite.0 in
        let west : is_on rest (prev_of a) ≡ true =
        grind (arith, after.alike (prev_of a) b (laws.prev_low a la) is.second) in
        let on_a : is_on rest a ≡ true = search (
          rules,
          after.gaps (prev_of a) (laws.prev_low a la) west,
          laws.next_prev a,
          left.gone s (0, arc.glued.near.some, inl refl),
          laws.next_prev s,
          laws.twin_twin (prev_of s) a (laws.prev_low s low) is.first,
        ) in
        (a, la, at_a laws s a b c low is, on_a, west)

    -- And where a corner stays, the opposite edge does.
    free : (IsBreak s → TurnsAt rest s) → IsEndFree faces marks cut s t
    free turn y a b first second =
        let low = arc.glued.near.corner.0 in
        let (x, z, w, is) = break_cross faces m marks marked s low y in
        let same : z ≡ b = cc (is.second, second) in
        let (e, le, at, on, before) = turn y in
        let on_z : is_on rest z ≡ true = grind (
          arith,
          one_of_four laws s x z w low is e (record { low = le; at = at }),
          left.gone s (0, arc.glued.near.some, inl refl),
          after.alike (prev_of x) z (laws.prev_low x (low_a laws s x z w low is)) is.second,
          after.alike (prev_of w) s (laws.prev_low w (low_c laws s x z w low is)) is.last,
        ) in
        let was = less laws left z (low_b laws s x z w low is) on_z in
        (ap (is_on cut) (sym same) ∙ was, λ e. cc (left.gone t (0, arc.glued.near.some, inr refl), same, e, on_z))

  module _ {s t n : ℕ} (arc : IsJoinable mesh (is_on cut) s t n) where
    abbrev rest : List Bool
    rest = without faces cut s t n

    is_left : IsWithout mesh (is_on cut) (is_on rest) s t n
    is_left = left faces cut s t n

    to_spared : keeps_lines faces marks rest ≡ true → IsSpared faces marks cut s t n
    to_spared y =
        let keeps = keeps_to faces marks rest y in
        record {
          unmarked = λ k l. false_from_ne_true _ (λ on. false≢true (sym (is_left.gone (easts mesh s k) (k, l, inl refl))
              ∙ keeps.kept (easts mesh s k) (side_low laws full arc.glued.near k l) on));
          near = free arc rest is_left (keeps.turned s arc.glued.near.corner.0);
          far = free (turned_arc laws full arc) rest (other_without is_left) (keeps.turned t arc.glued.far.corner.0);
        }

    from_spared : IsSpared faces marks cut s t n → keeps_lines faces marks rest ≡ true
    from_spared spared = keeps_from faces marks rest (record {
      kept = λ d l y. still laws is_left d l (λ o. unmarked d o y) (beside.kept d l y);
      turned = λ d l y. turned d y ((keeps_of beside).turned d l y);
    })
      where
        -- No dart of the arc is marked.
        unmarked : (d : ℕ) → IsOnArc mesh s t n d → is_on marks d ≡ true → ⊥
        unmarked d (k, l, inl e) y = cc (spared.unmarked k l)
        unmarked d (k, l, inr e) y =
            let i = n - suc k in
            let low = side_low laws full arc.glued.near i (omega arith) in
            cc (
              spared.unmarked i (omega arith),
              marked.alike (easts mesh s i) (easts mesh t k) low (arc.glued.across i k (omega arith)),
            )

        -- The ends of the arc stay corners,
        ends : (z : ℕ) → (z ≡ s) ⊎ (z ≡ t) → IsBreak z → TurnsAt rest z
        ends z (inl e) = rw e (stays arc rest is_left spared.near)
        ends z (inr e) = rw e (stays (turned_arc laws full arc) rest (other_without is_left) spared.far)

        -- and so do others, which have no dart of the arc.
        turned : (d : ℕ) → IsBreak d → TurnsAt cut d → TurnsAt rest d
        turned d y turn =
            let (e, le, at, on, before) = turn in
            elim (leaves_or_not laws full arc.glued e le) [
              | inl (z, o, v) ↦
                  let same : from_of faces z ≡ from_of faces d = v ∙ at in
                  subst (Turn faces rest) same (ends z (first_at arc z o (subst (Turn faces cut) (sym same) turn))
                  (ap (is_break faces marks) same ∙ y))
              | inr none ↦ (
                e,
                le,
                at,
                still laws is_left e le none.0 on,
                still laws is_left (prev_of e) (laws.prev_low e le) none.1 before,
              )
            ]

pub spared_law : SparedLaw
spared_law faces marks cut s t n m marked beside arc =
    (to_spared faces m marks marked cut beside arc, from_spared faces m marks marked cut beside arc)
