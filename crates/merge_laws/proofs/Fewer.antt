-- Without a joinable arc there is one patch less.
use Rattle.std.proofs.Common.{◌≡◌, ◌≢◌, ℕ, zero, suc, ◌-◌, ◌<◌, ◌==◌, true, cond, List, length}
use Rattle.std.proofs.Common.{rules, sym, ◌∙◌, ap, refl, inl, inr, arith}
use Rattle.std.proofs.lemmas.Bool.{cases_eq, cases_lt, Decides.nat_tests}
use Rattle.written_laws.proofs.Spacings.{AreNumbers, numbers_le, passing_all}
use Rattle.def_mesh.specs.HalfEdges.{HalfEdges, IsQuadManifold}
use Rattle.def_cut.specs.{Cuts.Cut, Cuts.Links, Cuts.IsCut, Grids.IsPartition, Grids.Rectangle, Grids.cell_of}
use Rattle.def_cut.specs.{Grids.patch_at, Steps.easts}
use Rattle.cut_laws.proofs.Classes.{first_in, links_join, links_low, linked_back, linked_in, step_over}
use Rattle.def_merge.specs.{Joins.AreInOne, Joins.IsJoinable, Joins.IsOnArc, Joins.IsWithout, Laws.FewerLaw}
use Rattle.merge_laws.proofs.Joins.{IsIn, one_place_of, links_less, on_or_not, paired, join_law}
use Rattle.merge_laws.proofs.Sides.{side_low, side_linked}

-- A dart of the mesh.
abbrev Dart : HalfEdges → Type 0
Dart mesh = (d : ℕ) × (d < mesh.count)

-- Patches of a cut.
module _ {mesh : HalfEdges} (laws : IsQuadManifold mesh) {cut : Cut} (full : IsCut mesh cut) {face : ℕ → ℕ}
    {ps : List Rectangle} (parts : IsPartition mesh cut face ps) where
  -- The patch of a dart.
  in_patch : (d : Dart mesh) → (p : ℕ) × (p < length ps) × IsIn mesh ps p d.0
  in_patch d = let (p, i, j, k, low, side) = parts.covers d.0 d.1 in search rules

  abbrev patch_of : Dart mesh → ℕ
  patch_of d = (in_patch d).0

  -- Linked darts have one patch, and darts of one patch are linked.
  same_patch : (d e : Dart mesh) → AreInOne mesh cut d.0 e.0 → patch_of d ≡ patch_of e
  same_patch d e a = one_place_of laws full parts _ _ d.0 e.0 (in_patch d).1 (in_patch e).1 (in_patch d).2
      (in_patch e).2 a

  linked : (d e : Dart mesh) → patch_of d ≡ patch_of e → AreInOne mesh cut d.0 e.0
  linked d e same =
      let (p, low, there) = in_patch e in
      let grid = (parts.patch p low).grid in
      let here = linked_in laws full grid d.0 (rw same at (in_patch d).2) in
      links_join laws cut d.0 (cell_of (patch_at ps p) 0 0) e.0
      (linked_back laws full _ d.0 (grid.low 0 0 grid.wide grid.tall) here) (linked_in laws full grid e.0 there)

  -- Each patch has a dart.
  some_dart : (p : ℕ) → p < length ps → (d : Dart mesh) × (patch_of d ≡ p)
  some_dart p low =
      let g = (parts.patch p low).grid in
      let d : Dart mesh = (cell_of (patch_at ps p) 0 0, g.low 0 0 g.wide g.tall) in
      (d, one_place_of laws full parts _ p d.0 d.0 (in_patch d).1 low (in_patch d).2 (first_in laws full g) (0, refl))

module _ {mesh : HalfEdges} (laws : IsQuadManifold mesh) {cut rest : Cut} (full : IsCut mesh cut) {face : ℕ → ℕ}
    {s t n : ℕ} (arc : IsJoinable mesh cut s t n) (without : IsWithout mesh cut rest s t n) {ps qs : List Rectangle}
    (parts : IsPartition mesh cut face ps) (whole : IsPartition mesh rest face qs) where
  after : IsCut mesh rest
  after = join_law mesh cut rest s t n laws full arc without

  -- A dart of each of the two patches beside the arc.
  abbrev near : Dart mesh
  near = (s, arc.glued.near.corner.0)

  abbrev far : Dart mesh
  far = (t, arc.glued.far.corner.0)

  abbrev old : Dart mesh → ℕ
  old d = patch_of laws full parts d

  abbrev new : Dart mesh → ℕ
  new d = patch_of laws after whole d

  -- What was linked is linked, and so are the two patches.
  still_linked : (d e : Dart mesh) → AreInOne mesh cut d.0 e.0 → AreInOne mesh rest d.0 e.0
  still_linked d e a = (a.0, links_less laws without d.0 e.0 a.0 d.1 a.1)

  joined : AreInOne mesh rest s t
  joined =
      let last : n - 1 < n = omega arith in
      let x : Dart mesh = (easts mesh t (n - 1), side_low laws full arc.glued.far (n - 1) last) in
      let back = linked_back laws full t x.0 far.1 (side_linked laws full arc.glued.far (n - 1) last) in
      let gone = without.gone s (0, arc.glued.near.some, inl refl) in
      links_join laws rest s x.0 t
      (step_over laws rest s s x.0 (0, refl) gone (arc.glued.across 0 (n - 1) (omega arith))) (still_linked x far back)

  -- The patch of a dart, where the near one stands for the far one.
  abbrev merged : Dart mesh → ℕ
  merged d = cond (old d == old far) (old near) (old d)

  merged_same : (d e : Dart mesh) → AreInOne mesh cut d.0 e.0 → merged d ≡ merged e
  merged_same d e a = ap (λ p. cond (p == old far) (old near) p) (same_patch laws full parts d e a)

  -- It is the near one for each dart of the arc.
  beside : (d : Dart mesh) → IsOnArc mesh s t n d.0 → merged d ≡ old near
  beside d (k, l, inl e) =
      let same = same_patch laws full parts near d (rw e (side_linked laws full arc.glued.near k l)) in
      grind (arith, nat_tests)
  beside d (k, l, inr e) =
      let same = same_patch laws full parts far d (rw e (side_linked laws full arc.glued.far k l)) in
      grind (arith, nat_tests)

  -- So it stays over each step between linked faces.
  merged_along : (d e : Dart mesh) (m : ℕ) → Links mesh rest d.0 e.0 m → merged d ≡ merged e
  merged_along d e zero is = merged_same d e (0, is)
  merged_along d e (suc m) (b, links, step) =
      let c : Dart mesh = (b, links_low laws rest d.0 b m d.1 links) in
      merged_along d c m links ∙ elim step [
        | inl next ↦ merged_same c e (1, (b, refl, inl next))
        | inr over ↦ elim (on_or_not mesh s t n b) [
          | inl o ↦ beside c o ∙ sym (beside e (paired laws full arc.glued b e.0 over.1 o))
          | inr none ↦ merged_same c e (1, (b, refl, inr (sym (without.kept b c.1 none) ∙ over.0, over.1)))
        ]
      ]

  -- Darts are told by their old patches. Their new ones, where one more stands for the far one, tell them too.
  by_old : AreNumbers (λ (d : Dart mesh). Unit {0}) (λ d. old d) (λ p. true) (length ps)
  by_old = record {
    each = λ d u. ((in_patch laws full parts d).1, refl);
    onto = λ p low on. let (d, is) = some_dart laws full parts p low in (d, tt, is);
  }

  abbrev number : Dart mesh → ℕ
  number d = cond (old d == old far) (length qs) (new d)

  by_new : AreNumbers (λ (d : Dart mesh). Unit {0}) (λ d. number d) (λ q. true) (suc (length qs))
  by_new = record {
    each = λ d u. (grind (arith, nat_tests, (in_patch laws after whole d).1), refl);
    onto = λ q low on. elim (cases_lt q (length qs)) [
      | inr last ↦ (far, tt, grind (arith, nat_tests))
      | inl l ↦
          let (d, is) = some_dart laws after whole q l in
          elim (cases_eq (old d) (old far)) [
            | inl e ↦
                let over = still_linked far d (linked laws full parts far d (sym e)) in
                let same = same_patch laws after whole near d (links_join laws rest s t d.0 joined over) in
                let other : old near ≢ old far = λ one. arc.apart (linked laws full parts near far one) in
                (near, tt, grind (arith, nat_tests))
            | inr other ↦ (d, tt, grind (arith, nat_tests))
          ]
    ];
  }

  fewer : length ps ≡ suc (length qs)
  fewer = omega (
    arith,
    passing_all (length ps),
    passing_all (suc (length qs)),
    numbers_le by_old by_new (λ d e x y same.
        let along : new d ≡ new e → merged d ≡ merged e =
        λ one. let is = linked laws after whole d e one in merged_along d e is.0 is.1 in
        grind (arith, nat_tests, along, (in_patch laws after whole d).1, (in_patch laws after whole e).1)),
    numbers_le by_new by_old (λ d e x y same.
        let one = same_patch laws after whole d e (still_linked d e (linked laws full parts d e same)) in
        grind (arith, nat_tests)),
  )

pub fewer_law : FewerLaw
fewer_law mesh cut rest face s t n ps qs laws full arc without parts whole = fewer laws full arc without parts whole
