-- The darts of arcs, and what is left of a cut without one.
use Rattle.std.proofs.Common.{rules, ◌≡◌, ◌⊎◌, ℕ, zero, suc, ◌-◌, ◌<◌, true, false, Some, sym, ◌∙◌, ap, refl, inl, inr}
use Rattle.std.proofs.Common.{true≢false, arith, List, length, ◌+◌}
use Rattle.std.proofs.{lemmas.Bool.cases_Bool, lemmas.Option.same_Some}
use Rattle.def_mesh.specs.HalfEdges.{HalfEdges, IsQuadManifold}
use Rattle.def_cut.specs.Cuts.{Cut, IsCross, HasCross, Links, IsCut, IsUncut, GoesOn}
use Rattle.def_cut.specs.Grids.{Cells, IsGrid, Rectangle, cell_of, patch_at, IsPartition, IsSide}
use Rattle.def_cut.specs.Steps.{spin, easts}
use Rattle.cut_laws.proofs.Classes.{links_low, linked_back, In, AreLinked, links_join, linked_in, closed, in_low}
use Rattle.cut_laws.proofs.Classes.{step_prev}
use Rattle.cut_laws.proofs.{Crosses.one_of_four, Crosses.low_a, Crosses.low_b, Folds.no_fold, Folds.prev_three}
use Rattle.cut_laws.proofs.Folds.{turn_from}
use Rattle.cut_laws.proofs.{Folds.next_same, Folds.twin_same, Pigeon.sent_or_not, Rows.cross_at, Corners.CornerOf}
use Rattle.def_merge.specs.{Joins.AreGlued, Joins.IsJoinable, Joins.IsOnArc, Joins.IsWithout, Laws.JoinLaw}
use Rattle.merge_laws.proofs.Sides.{side_low, side_on, side_link, side_linked, first_place, grid_on, north_side}
use Rattle.{motion_laws.proofs.Bits.rotated, cut_laws.specs.Grown.grown}

-- Whether a dart lies on an arc.
pub on_or_not : (mesh : HalfEdges) (s t n d : ℕ) → IsOnArc mesh s t n d ⊎ (IsOnArc mesh s t n d → ⊥)
on_or_not mesh s t n d = grind (arith, sent_or_not (easts mesh s) d n, sent_or_not (easts mesh t) d n)

pub other_without : {mesh : HalfEdges} {cut rest : Cut} {s t n : ℕ} → IsWithout mesh cut rest s t n
    → IsWithout mesh cut rest t s n
other_without {mesh} {s} {t} {n} without = search rules

-- Four faces go round a vertex, from wherever they are counted.
cross_from : {mesh : HalfEdges} → IsQuadManifold mesh → (x d : ℕ) → x < mesh.count → d < mesh.count
    → mesh.from d ≡ mesh.from x → HasCross mesh x → HasCross mesh d
cross_from {mesh} laws x d lx ld at (a, b, c, is) =
    let second = rotated mesh laws x a b c lx is in
    let third = rotated mesh laws a b c x (low_a laws x a b c lx is) second in
    let fourth = rotated mesh laws b c x a (low_b laws x a b c lx is) third in
    grind (arith, one_of_four laws x a b c lx is d)

module _ {mesh : HalfEdges} (laws : IsQuadManifold mesh) {cut : Cut} (full : IsCut mesh cut) where
  -- A joinable arc seen from its other side.
  pub turned_glued : {s t n : ℕ} → AreGlued mesh cut s t n → AreGlued mesh cut t s n
  turned_glued {s} {t} {n} g = record {
    near = g.far;
    far = g.near;
    across = λ k j e. laws.twin_twin (easts mesh s j) (easts mesh t k)
        (side_low laws full g.near j (omega arith)) (g.across j k (omega arith));
  }

  pub turned_arc : {s t n : ℕ} → IsJoinable mesh cut s t n → IsJoinable mesh cut t s n
  turned_arc {s} {t} arc = record { glued = turned_glued arc.glued; apart = search (rules, linked_back) }

  module _ {s t n : ℕ} (g : AreGlued mesh cut s t n) where
    pub on_low : (d : ℕ) → IsOnArc mesh s t n d → d < mesh.count
    on_low d (k, l, inl e) = rw e (side_low laws full g.near k l)
    on_low d (k, l, inr e) = rw e (side_low laws full g.far k l)

    pub on_cut : (d : ℕ) → IsOnArc mesh s t n d → cut d ≡ true
    on_cut d (k, l, inl e) = ap cut e ∙ side_on laws full g.near k l
    on_cut d (k, l, inr e) = ap cut e ∙ side_on laws full g.far k l

    -- Its darts are paired.
    pub on_twin : (d : ℕ) → IsOnArc mesh s t n d → (e : ℕ) × (mesh.twin d ≡ Some e) × IsOnArc mesh s t n e
    on_twin d (k, l, o) =
        let j = n - suc k in
        elim o [
          | inl e ↦ (easts mesh t j, ap mesh.twin e ∙ g.across k j (omega arith), (j, omega arith, inr refl))
          | inr e ↦
              (easts mesh s j, ap mesh.twin e ∙ (turned_glued g).across k j (omega arith), (j, omega arith, inl refl))
        ]

    pub paired : (d e : ℕ) → mesh.twin d ≡ Some e → IsOnArc mesh s t n d → IsOnArc mesh s t n e
    paired d e tw o = let (x, is, on) = on_twin d o in rw (← same_Some x e (sym is ∙ tw)) on

    -- A dart of the arc leaves the vertex of d, or neither d nor the dart before it lies on the arc.
    pub leaves_or_not : (d : ℕ) → d < mesh.count → ((x : ℕ) × IsOnArc mesh s t n x × (mesh.from x ≡ mesh.from d))
        ⊎ ((IsOnArc mesh s t n d → ⊥) × (IsOnArc mesh s t n (mesh.prev d) → ⊥))
    leaves_or_not d l = elim (on_or_not mesh s t n d) [
      | inl o ↦ inl (d, o, refl)
      | inr none ↦ elim (on_or_not mesh s t n (mesh.prev d)) [
        | inl o ↦ let (x, is, on) = on_twin (mesh.prev d) o in inl (x, on, turn_from laws d x l is)
        | inr clear ↦ inr (none, clear)
      ]
    ]

  -- No other side of a cell is a south side of its grid.
  pub never_south : {w h : ℕ} {cell : Cells} → IsGrid mesh cut w h cell → (q i a b : ℕ) → 0 < q → q < 4 → i < w → a < w
      → b < h → cell i 0 ≡ spin mesh q (cell a b) → ⊥
  never_south {cell} grid q i a b some low li la lb e =
      let place = no_fold laws full grid q i 0 a b li grid.tall la lb e in
      by_turn q some low (cc (place.0, place.1))
    where
      by_turn : (q : ℕ) → 0 < q → q < 4 → cell a b ≡ spin mesh q (cell a b) → ⊥
      by_turn (suc zero) some low e = grind (arith, laws.corners_differ (cell a b), grid.low a b la lb)
      by_turn (suc (suc zero)) some low e = grind (arith, laws.corners_differ (cell a b), grid.low a b la lb)
      by_turn (suc (suc (suc zero))) some low e = search (rules, grid.low a b la lb)
      by_turn _ some low e = omega arith

-- What is left of the cut without an arc.
module _ {mesh : HalfEdges} (laws : IsQuadManifold mesh) {cut rest : Cut} {s t n : ℕ}
    (without : IsWithout mesh cut rest s t n) where
  pub less : (d : ℕ) → d < mesh.count → rest d ≡ true → cut d ≡ true
  less d l on = search rules

  pub still : (d : ℕ) → d < mesh.count → (IsOnArc mesh s t n d → ⊥) → cut d ≡ true → rest d ≡ true
  still d l none on = without.kept d l none ∙ on

  pub opened : (d : ℕ) → d < mesh.count → cut d ≡ false → rest d ≡ false
  opened d l off = search rules

  pub links_less : (d e m : ℕ) → d < mesh.count → Links mesh cut d e m → Links mesh rest d e m
  links_less d e zero l a = a
  links_less d e (suc m) l a = search (rules, links_low, links_less d a.0 m l a.1)

-- Without a joinable arc a full cut is a full cut.

-- A joinable arc, with the grids on both its sides.
module _ {mesh : HalfEdges} (laws : IsQuadManifold mesh) {cut : Cut} (full : IsCut mesh cut) {s t n : ℕ}
    (arc : IsJoinable mesh cut s t n) where
  grid : (h : ℕ) × IsGrid mesh cut n h (grown mesh s)
  grid = grid_on laws full arc.glued.near

  -- The patch of the near side has no dart of the far side.
  foreign : (x k : ℕ) → AreLinked mesh cut s x → k < n → x ≡ easts mesh t k → ⊥
  foreign x k a l e = arc.apart (links_join laws cut s x t a (rw e (linked_back laws full t (easts mesh t k)
      arc.glued.far.corner.0 (side_linked laws full arc.glued.far k l))))

  -- Inside the arc four faces go round a vertex.
  pub crossed_at : (k i : ℕ) → suc k + suc i ≡ n → IsCross mesh (easts mesh s (suc k)) (mesh.next (easts mesh s k))
      (easts mesh t (suc i)) (mesh.next (easts mesh t i))
  crossed_at k i e =
      let low = side_low laws full arc.glued.far i (omega arith) in
      let back = (turned_glued laws full arc.glued).across i (suc k) (omega arith) in
      record {
        first = grind (arith, side_low laws full arc.glued.near k);
        second = ap mesh.twin (laws.prev_next (easts mesh s k)) ∙ arc.glued.across k (suc i) (omega arith);
        third = grind arith;
        last = ap mesh.twin (laws.prev_next (easts mesh t i)) ∙ back;
        apart = foreign (easts mesh s (suc k)) (suc i)
            (side_linked laws full arc.glued.near (suc k) (omega arith)) (omega arith);
      }

  module _ {rest : Cut} (without : IsWithout mesh cut rest s t n) where
    -- The other sides of a cell on the near side stay.
    kept : (q a b : ℕ) → 0 < q → q < 4 → a < n → b < grid.0 → cut (spin mesh q (grown mesh s a b)) ≡ true
        → rest (spin mesh q (grown mesh s a b)) ≡ true
    kept q a b some low la lb on =
        let x = spin mesh q (grown mesh s a b) in
        let here : In mesh n grid.0 (grown mesh s) x =
        (q, record { a = a; b = b; a_low = la; b_low = lb; is = refl }) in
        still laws without x (in_low laws full grid.1 x here) (λ o. elim o.2 [
          | inl e ↦ never_south laws full grid.1 q o.0 a b some low o.1 la lb (sym e)
          | inr e ↦ foreign x o.0 (linked_in laws full grid.1 x here) o.1 e
        ]) on

    -- Where the cut came along the face to the arc, it goes straight on over its end.
    gap_over : (d : ℕ) → d < mesh.count → cut d ≡ true → (k : ℕ) → k < n → mesh.next d ≡ easts mesh s k
        → rest (mesh.next (easts mesh t (n - 1))) ≡ true → GoesOn mesh rest d
    gap_over d ld on k l e rest_end =
        let start = first_place laws full arc.glued.near k l
        (ap (λ x. cut (mesh.prev x)) (sym e) ∙ (ap cut (laws.prev_next d) ∙ on)) in
        search rules

    -- Where it came straight on to the arc, it came along the arc.
    gap_on : (d e : ℕ) → d < mesh.count → cut (mesh.next d) ≡ false → mesh.twin (mesh.next d) ≡ Some e → (k : ℕ)
        → k < n → mesh.next e ≡ easts mesh s k → rest d ≡ false
    gap_on d e ld off tw zero l is = search rules
    gap_on d e ld off tw (suc k) l is =
        let x = easts mesh s k in
        let link = side_link laws full arc.glued.near k l in
        let same = twin_same laws (mesh.next d) (mesh.next x) e (laws.next_low d ld)
        (laws.next_low x (side_low laws full arc.glued.near k (omega arith))) tw (cc (link, laws.prev_next e)) in
        without.gone d (k, omega arith, inl (next_same laws d x same))

    -- The end of the arc on the near side is followed by an edge that stays.
    end_stays : rest (mesh.next (easts mesh s (n - 1))) ≡ true
    end_stays = kept 1 (n - 1) 0 (omega arith) (omega arith) (omega arith) grid.1.tall
        (arc.glued.near.ends (n - 1) (omega arith))

    -- An open vertex with a dart on the near side: the edge before the start of the arc stays.
    cross_on : (d : ℕ) → rest (mesh.prev d) ≡ false → (k : ℕ) → k < n → d ≡ easts mesh s k → HasCross mesh d
    cross_on d off zero l e =
        let three = prev_three laws s in
        absurd (cc (three, kept 3 0 0 (omega arith) (omega arith) l grid.1.tall (cc (three, arc.glued.near.corner.2))))
    cross_on d off (suc k) l e = rw e (_, _, _, crossed_at k (n - suc (suc k)) (omega arith))

    -- The near grid keeps its far corner.
    lost : (d x : ℕ) → d < mesh.count → AreLinked mesh cut d x → (k : ℕ) → k < n → x ≡ easts mesh s k
        → CornerOf mesh rest d
    lost d x ld a k l e =
        let h = grid.0 in
        let g = grid.1 in
        let last : n - 1 < n = omega arith in
        let top : h - 1 < h = omega (arith, g.tall) in
        let before = mesh.next (grown mesh s (n - 1) (h - 1)) in
        let far = mesh.next before in
        let corner = (north_side laws full g).corner in
        let there = linked_in laws full g far
        (2, record { a = n - 1; b = h - 1; a_low = last; b_low = top; is = refl }) in
        let on = linked_back laws full s x arc.glued.near.corner.0 (rw e (side_linked laws full arc.glued.near k l)) in
        let (m, links) = links_join laws cut d x far a (links_join laws cut x s far on there) in (
          far,
          m,
          links_less laws without d far m ld links,
          (
            corner.0,
            kept 2 (n - 1) (h - 1) (omega arith) (omega arith) last top corner.1,
            ap rest (laws.prev_next before)
                ∙ kept 1 (n - 1) (h - 1) (omega arith) (omega arith) last top (ap cut (sym (laws.prev_next before))
                ∙ corner.2),
          ),
        )

module _ {mesh : HalfEdges} (laws : IsQuadManifold mesh) {cut : Cut} (full : IsCut mesh cut) {s t n : ℕ}
    (arc : IsJoinable mesh cut s t n) {rest : Cut} (without : IsWithout mesh cut rest s t n) where
  -- Each dart of the arc lies on the near side, as the arc is seen from one side or from the other.
  seen : {P : Type 0} {d : ℕ} → ((s t : ℕ) → IsJoinable mesh cut s t n → IsWithout mesh cut rest s t n → (k : ℕ) → k < n
      → d ≡ easts mesh s k → P) → IsOnArc mesh s t n d → P
  seen from (k, l, inl e) = from s t arc without k l e
  seen from (k, l, inr e) = from t s (turned_arc laws full arc) (other_without without) k l e

  gaps : (d : ℕ) → d < mesh.count → rest d ≡ true → GoesOn mesh rest d
  gaps d l on =
      let next = mesh.next d in
      let was = less laws without d l on in
      elim (cases_Bool (cut next)) [
        | inl c ↦ elim (on_or_not mesh s t n next) [
          | inl o ↦ seen (λ s t arc without k lk e. gap_over laws full arc without d l was k lk e (end_stays laws full
              (turned_arc laws full arc) (other_without without))) o
          | inr none ↦ inl (still laws without next (laws.next_low d l) none c)
        ]
        | inr off ↦ elim (full.gaps d l was) [
          | inl c ↦ absurd (true≢false (sym c ∙ off))
          | inr f ↦ elim (on_or_not mesh s t n (mesh.next f.0)) [
            | inl o ↦ absurd (true≢false (sym on ∙ seen (search (rules, gap_on)) o))
            | inr none ↦
                let low = laws.next_low f.0 (laws.twin_low next f.0 (laws.next_low d l) f.1) in
                inr (f.0, f.1, still laws without (mesh.next f.0) low none f.2)
          ]
        ]
      ]

  crossed : (d : ℕ) → d < mesh.count → IsUncut mesh rest (mesh.from d) → HasCross mesh d
  crossed d l uncut = elim (leaves_or_not laws full arc.glued d l) [
    | inl (x, o, at) ↦
        let low = on_low laws full arc.glued x o in
        cross_from laws x d low l (sym at)
        (seen (λ s t arc without. cross_on laws full arc without x (uncut x low at).1) o)
    | inr none ↦
        let off = uncut d l refl in
        cross_at laws full d l (
          sym (without.kept d l none.0) ∙ off.0,
          sym (without.kept (mesh.prev d) (laws.prev_low d l) none.1) ∙ off.1,
        )
  ]

  corner : (d : ℕ) → d < mesh.count → CornerOf mesh rest d
  corner d l =
      let (e, m, there, is) = full.corner d l in
      let far : (x : ℕ) → AreLinked mesh cut d x → IsOnArc mesh s t n x → CornerOf mesh rest d =
      λ x a. seen (λ s t arc without. lost laws full arc without d x l a) in
      elim (on_or_not mesh s t n e) [
        | inl o ↦ far e (m, there) o
        | inr none ↦ elim (on_or_not mesh s t n (mesh.prev e)) [
          | inl o ↦ far (mesh.prev e) (step_prev laws cut d e (m, there)) o
          | inr clear ↦ (
            e,
            m,
            links_less laws without d e m l there,
            (
              is.0,
              still laws without e is.0 none is.1,
              still laws without (mesh.prev e) (laws.prev_low e is.0) clear is.2,
            ),
          )
        ]
      ]

pub join_law : JoinLaw
join_law mesh cut rest s t n laws full arc without = record {
  alike = λ d e l tw. elim (on_or_not mesh s t n d) [
    | inl o ↦ without.gone e (paired laws full arc.glued d e tw o) ∙ sym (without.gone d o)
    | inr none ↦ without.kept e (laws.twin_low d e l tw) (λ p. none (paired laws full arc.glued e d
        (laws.twin_twin d e l tw) p)) ∙ (full.alike d e l tw ∙ sym (without.kept d l none))
  ];
  boundary = λ d l is. still laws without d l (λ o. cc ((on_twin laws full arc.glued d o).1)) (full.boundary d l is);
  gaps = gaps laws full arc without;
  crossed = crossed laws full arc without;
  corner = corner laws full arc without;
}

-- Patches and classes of faces: linked darts lie in one patch.

-- Dart x lies in the patch with this number.
abbrev pub IsIn : (mesh : HalfEdges) (ps : List Rectangle) (p x : ℕ) → Type 0
IsIn mesh ps p x = In mesh (patch_at ps p).w (patch_at ps p).h (cell_of (patch_at ps p)) x

module _ {mesh : HalfEdges} (laws : IsQuadManifold mesh) {cut : Cut} (full : IsCut mesh cut) {face : ℕ → ℕ}
    {ps : List Rectangle} (parts : IsPartition mesh cut face ps) where
  side_of : (p x : ℕ) (i : IsIn mesh ps p x) → IsSide mesh (patch_at ps p) i.1.a i.1.b i.0 x
  side_of p x i = record { i_low = i.1.a_low; j_low = i.1.b_low; is = i.1.is }

  -- Linked darts lie in one patch.
  pub one_place_of : (p q x y : ℕ) → p < length ps → q < length ps → IsIn mesh ps p x → IsIn mesh ps q y
      → AreLinked mesh cut x y → p ≡ q
  one_place_of p q x y lp lq i j a =
      let here = closed laws full ((parts.patch p lp).grid) x y _ a.1 i in
      (parts.once y p here.1.a here.1.b here.0 q j.1.a j.1.b j.0 lp lq (side_of p y here) (side_of q y j)).0
