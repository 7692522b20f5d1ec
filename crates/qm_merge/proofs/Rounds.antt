-- The corners of a patch, one after the other.
use Rattle.std.proofs.Common.{◌≡◌, ◌⊎◌, Bool, ◌||◌, eqb, ℕ, suc, ◌-◌, ◌<◌, true, false, sym, ◌∙◌, ap, refl, inl, inr}
use Rattle.std.proofs.Common.{rules, arith, zero, ◌+◌, ◌↔◌, min, Some, None, true≢false}
use Rattle.std.proofs.lemmas.{Bool.cases_eq, Bool.cases_lt, Bool.Decides.nat_tests, Option.same_Some}
use Rattle.def_cut.specs.{Cuts.Cut, Cuts.IsCorner, Cuts.IsCut, Steps.easts, Steps.step_east, Grids.IsGrid}
use Rattle.cut_laws.proofs.Classes.{In, linked_in, closed, first_in}
use Rattle.merge_laws.proofs.Sides.{IsFirstDart, side_low, side_on, one_place, one_size, grid_on, east_side, north_side}
use Rattle.merge_laws.proofs.Sides.{west_side, along_east, along_north, along_west, corner_in, easts_front}
use Rattle.{merge_laws.proofs.Joins.never_south, qm_merge.specs.declared.links.Round.Round}
use Rattle.def_merge.specs.Joins.{IsWholeSide, AreInOne, AreGlued, IsOnArc, IsNameOf}
use Rattle.qm_merge.specs.{Walks.IsNextCorner, Walks.LeadsOn, Seams.AreGluedSoFar, Seams.IsNameSoFar, Links.IsRound}
use Rattle.{def_mesh.specs.HalfEdges.HalfEdges, def_mesh.specs.HalfEdges.IsQuadManifold, cut_laws.specs.Grown.grown}

-- t is one of four corners.
abbrev pub IsOneOf : (s : ℕ) (round : Round) (t : ℕ) → Type 0
IsOneOf s round t = (t ≡ s) ⊎ ((t ≡ round.second) ⊎ ((t ≡ round.third) ⊎ (t ≡ round.fourth)))

-- So a list of the four has it.
abbrev has_four : (s : ℕ) (round : Round) (t : ℕ) → Bool
has_four s round t = eqb s t || (eqb round.second t || (eqb round.third t || (eqb round.fourth t || false)))

pub among_four : (s : ℕ) (round : Round) (t : ℕ) → (has_four s round t ≡ true) ↔ IsOneOf s round t
among_four s round t = (λ on. grind (arith, nat_tests), λ is. grind (arith, nat_tests))

module _ {mesh : HalfEdges} (laws : IsQuadManifold mesh) {cut : Cut} (full : IsCut mesh cut) where
  pub next_is_corner : {c d : ℕ} → IsNextCorner mesh cut c d → IsCorner mesh cut d
  next_is_corner {c} {d} n = search (rules, side_low, side_on)

  -- A corner has one next corner, and is the next of one.
  pub one_next : {c d e : ℕ} → IsNextCorner mesh cut c d → IsNextCorner mesh cut c e → d ≡ e
  one_next {c} {d} {e} a b = search rules

  pub one_before : {c d e : ℕ} → IsNextCorner mesh cut c e → IsNextCorner mesh cut d e → c ≡ d
  one_before {c} {d} {e} a b = grind (arith, one_place laws full a.0 b.0 a.1 b.1)

  -- Round a patch.
  module _ {s : ℕ} {round : Round} (is : IsRound mesh cut s round) where
    open is use {second as one, third as two, fourth as three}

    abbrev w : ℕ
    w = suc one.0

    module _ {h : ℕ} (grid : IsGrid mesh cut w h (grown mesh s)) where
      second : round.second ≡ mesh.next (grown mesh s (w - 1) 0)
      second = let column : w - 1 ≡ one.0 = omega arith in cc (one.2, column)

      tall : suc two.0 ≡ h
      tall = one_size laws full two.1 (rw second (east_side laws full grid))

      third : round.third ≡ mesh.next (mesh.next (grown mesh s (w - 1) (h - 1)))
      third =
          let top : two.0 ≡ h - 1 = omega (arith, tall) in
          cc (two.2, second, along_east laws full grid two.0 (omega (arith, tall)), top)

      wide : suc three.0 ≡ w
      wide = one_size laws full three.1 (rw third (north_side laws full grid))

      fourth : round.fourth ≡ mesh.next (mesh.next (mesh.next (grown mesh s 0 (h - 1))))
      fourth = cc (three.2, third, along_north laws full grid three.0 0 (omega (arith, wide)))

      inside : (x : ℕ) → IsOneOf s round x → In mesh w h (grown mesh s) x
      inside x (inl here) = (0, record { a = 0; b = 0; a_low = omega arith; b_low = omega (arith, tall); is = here })
      inside x (inr (inl here)) = (1, search rules)
      inside x (inr (inr (inl here))) = (2, search (rules, third))
      inside x (inr (inr (inr here))) =
          (3, record { a = 0; b = h - 1; a_low = omega arith; b_low = omega (arith, tall); is = here ∙ fourth })

      found : (x : ℕ) → IsFirstDart mesh w h (grown mesh s) x → IsOneOf s round x
      found x first = rw (second, third, fourth) first

      back : IsNextCorner mesh cut round.fourth s
      back =
          let along = along_west laws full grid two.0 0 (omega (arith, tall)) in
          (two.0, rw (tall, fourth) (west_side laws full grid), cc (laws.four_sides s, fourth, along))

    -- The grid that stands on the first side.
    on_first : (h : ℕ) × IsGrid mesh cut w h (grown mesh s)
    on_first = grid_on laws full one.1

    pub around : (t : ℕ) → IsOneOf s round t → AreInOne mesh cut s t
    around t of = let p = on_first in linked_in laws full p.1 t (inside p.1 t of)

    pub is_one_of : (t : ℕ) → IsCorner mesh cut t → AreInOne mesh cut s t → IsOneOf s round t
    is_one_of t corner a =
        let p = on_first in
        found p.1 t (corner_in laws full p.1 t (closed laws full p.1 s t a.0 a.1 (first_in laws full p.1)) corner)

    -- They follow each other round: after the fourth comes the first again, and the third is another one.
    pub closes : IsNextCorner mesh cut round.fourth s
    closes = back on_first.1

    pub opposite : round.third ≡ s → ⊥
    opposite same = let p = on_first in
        never_south laws full p.1 2 0 (w - 1) (p.0 - 1) (omega arith) (omega arith) (omega arith) (omega arith)
        (omega (arith, tall p.1)) (sym same ∙ third p.1)

-- The walk along a side and the twins of its darts.

-- The least of three.
abbrev pub least_of_three : (a b c : ℕ) → ℕ
least_of_three a b c = min (min a b) c

one_of_three : (a b c : ℕ) → (least_of_three a b c ≡ c) ⊎ ((least_of_three a b c ≡ b) ⊎ (least_of_three a b c ≡ a))
one_of_three a b c = grind arith

-- Straight on from the new twin lie those before.
behind : (mesh : HalfEdges) (cut : Cut) (t far n j : ℕ) → LeadsOn mesh cut t n far → 0 < n
    → easts mesh t (suc j) ≡ easts mesh far j
behind mesh cut t far zero j leads some = absurd (omega arith)
behind mesh cut t far (suc n) j leads some = cc (easts_front mesh t j, leads.1)

-- Only the first twin stands at the end of a side.
led : (mesh : HalfEdges) (cut : Cut) (t far n : ℕ) → LeadsOn mesh cut t n far
    → (n ≡ 0 → cut (mesh.next t) ≡ true) × (0 < n → cut (mesh.next t) ≡ false)
led mesh cut t far zero leads = (λ none. leads, λ some. absurd (omega arith))
led mesh cut t far (suc n) leads = (λ none. absurd (omega arith), λ some. leads.0)

module _ {mesh : HalfEdges} (cut : Cut) {s far d n t : ℕ} (at : d ≡ easts mesh s n) (tw : mesh.twin d ≡ Some t)
    (leads : LeadsOn mesh cut t n far) where
  pub glued_more : AreGluedSoFar mesh cut s far n → AreGluedSoFar mesh cut s t (n + 1)
  glued_more g = record { across = across; inside = inside; ends = ends }
    where
      across : (k j : ℕ) → k + suc j ≡ n + 1 → mesh.twin (easts mesh s k) ≡ Some (easts mesh t j)
      across k zero e = let same : k ≡ n = omega arith in cc (same, at, tw)
      across k (suc j) e = cc (g.across k j (omega arith), behind mesh cut t far n j leads (omega arith))

      inside : (j : ℕ) → suc j < n + 1 → cut (mesh.next (easts mesh t j)) ≡ false
      inside zero l = (led mesh cut t far n leads).1 (omega arith)
      inside (suc j) l = cc (behind mesh cut t far n j leads (omega arith), g.inside j (omega arith))

      ends : (j : ℕ) → suc j ≡ n + 1 → cut (mesh.next (easts mesh t j)) ≡ true
      ends zero e = (led mesh cut t far n leads).0 (omega arith)
      ends (suc j) e = cc (behind mesh cut t far n j leads (omega arith), g.ends j (omega arith))

  pub name_more : {name : ℕ} → IsNameSoFar mesh s far n name → IsNameSoFar mesh s t (n + 1) (least_of_three name d t)
  name_more {name} is = record {
    on = elim (one_of_three name d t) [
      | inl e ↦ rw e (inr (0, omega arith, inr refl))
      | inr (inl e) ↦ rw e (inr (n, omega arith, inl at))
      | inr (inr e) ↦ search (rules, still_on)
    ];
    least = λ x o. grind (arith, one_more x o, is.least x);
  }
    where
      -- A dart more of each side lies on the arc.
      one_more : (x : ℕ) → IsOnArc mesh s t (n + 1) x → (x ≡ d) ⊎ ((x ≡ t) ⊎ IsOnArc mesh s far n x)
      one_more x (k, l, inl e) = search rules
      one_more x (zero, l, inr e) = inr (inl e)
      one_more x (suc k, l, inr e) = search (rules, behind)

      still_on : (x : ℕ) → IsOnArc mesh s far n x → IsOnArc mesh s t (n + 1) x
      still_on x (k, l, inl e) = (k, omega arith, inl e)
      still_on x (k, l, inr e) = (suc k, omega arith, search (rules, behind))

module _ {mesh : HalfEdges} (laws : IsQuadManifold mesh) {cut : Cut} (full : IsCut mesh cut) {s d n : ℕ}
    (corner : IsCorner mesh cut s) (at : d ≡ easts mesh s n)
    (inside : (k : ℕ) → k < n → cut (mesh.next (easts mesh s k)) ≡ false) where
  -- At the end of the near side.
  pub near_done : cut (mesh.next d) ≡ true → IsWholeSide mesh cut s (n + 1)
  near_done on = search rules

  module _ {t far : ℕ} (tw : mesh.twin d ≡ Some t) (leads : LeadsOn mesh cut t n far) where
    pub glued_done : AreGluedSoFar mesh cut s far n → cut (mesh.next d) ≡ true → cut (mesh.prev t) ≡ true
        → AreGlued mesh cut s t (n + 1)
    glued_done g on before =
        let near = near_done on in
        let low : d < mesh.count = rw at (side_low laws full near n (omega arith)) in
        let some : 0 < n + 1 = omega arith in
        let first : IsCorner mesh cut t = (laws.twin_low d t low tw, search (rules, side_on), before) in
        assumption (near, (glued_more cut at tw leads g))

    pub name_done : {name : ℕ} → IsNameSoFar mesh s far n name → IsNameOf mesh s t (n + 1) (least_of_three name d t)
    name_done is =
        let more = name_more cut at tw leads is in
        record { on = elim more.on [ inl e ↦ (0, omega arith, inl e) | inr o ↦ o ]; least = more.least }

  -- Where the walk stops, the side is no such arc.
  module _ {t m : ℕ} (glued : AreGlued mesh cut s t m) where
    longer : n < m
    longer = elim (cases_lt n m) [
      | inl l ↦ l
      | inr h ↦ absurd (true≢false (sym (glued.near.ends (m - 1) (omega (arith, glued.near.some)))
          ∙ inside (m - 1) (omega (arith, glued.near.some))))
    ]

    over : (j : ℕ) → n + suc j ≡ m → mesh.twin d ≡ Some (easts mesh t j)
    over j e = cc (at, glued.across n j e)

    pub no_twin : mesh.twin d ≡ None → ⊥
    no_twin is = let clash : None ≡ Some (easts mesh t (m - suc n)) =
        sym is ∙ over (m - suc n) (omega (arith, longer)) in absurd cc

    pub leads_there : {u far : ℕ} → mesh.twin d ≡ Some u → AreGluedSoFar mesh cut s far n → LeadsOn mesh cut u n far
    leads_there {u} {far} tw g = here n (m - suc n) (omega (arith, longer)) (search (rules, over, longer)) g.across
      where
        here : (n j : ℕ) → n + suc j ≡ m → easts mesh t j ≡ u
            → ((k i : ℕ) → k + suc i ≡ n → mesh.twin (easts mesh s k) ≡ Some (easts mesh far i))
            → LeadsOn mesh cut u n far
        here zero j e is across = cc (is, glued.far.ends j (omega arith))
        here (suc n) j e is across = (
          cc (is, glued.far.inside j (omega arith)),
          ap (step_east mesh) (sym is) ∙ same_Some (easts mesh t (suc j)) far
              (sym (glued.across n (suc j) (omega arith)) ∙ across n 0 (omega arith)),
        )

    pub far_corner : {u : ℕ} → mesh.twin d ≡ Some u → cut (mesh.next d) ≡ true → cut (mesh.prev u) ≡ true
    far_corner {u} tw on = elim (cases_eq (suc n) m) [
      | inl e ↦ cc (same_Some u t (sym tw ∙ over 0 (omega arith)), glued.far.corner.2)
      | inr ne ↦ absurd (true≢false (cc (on, at, glued.near.inside n (omega (arith, longer)))))
    ]
