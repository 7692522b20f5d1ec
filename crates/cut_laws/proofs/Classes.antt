-- Classes of faces that are joined over edges that are not cut: each is one grid, and has one patch.
use Rattle.std.proofs.Common.{rules, ◌≡◌, ℕ, zero, suc, ◌-◌, ◌<◌, ◌≤◌, true, false, Some, sym, ◌∙◌, ap, refl, inl, inr}
use Rattle.std.proofs.Common.{arith, List, [], ◌∷◌, length, get_or}
use Rattle.std.proofs.{lemmas.Bool.cases_lt}
use Rattle.def_mesh.specs.HalfEdges.{HalfEdges, IsQuadManifold}
use Rattle.def_cut.specs.{Cuts.Cut, Cuts.Links, Cuts.IsCorner, Cuts.IsCut, Grids.Cells, Grids.IsGrid, Grids.IsPatch}
use Rattle.def_cut.specs.{Grids.least_of, Steps.spin}
use Rattle.cut_laws.proofs.Folds.{prev_three, spin_next, west_open, south, south_open, quarter, AreOne}
use Rattle.cut_laws.proofs.Folds.{quarter_grid, one_grid}

-- x is the k-th side of a cell of a grid, where k may be any number.
pub record At (mesh : HalfEdges) (w h : ℕ) (cell : Cells) (k x : ℕ) : Type 0 where
  pub a : ℕ
  pub b : ℕ
  pub a_low : a < w
  pub b_low : b < h
  pub is : x ≡ spin mesh k (cell a b)

-- x is a side of a cell of the grid.
abbrev pub In : (mesh : HalfEdges) (w h : ℕ) (cell : Cells) (x : ℕ) → Type 0
In mesh w h cell x = (k : ℕ) × At mesh w h cell k x

-- Two darts are of one class.
abbrev pub AreLinked : (mesh : HalfEdges) (cut : Cut) (d e : ℕ) → Type 0
AreLinked mesh cut d e = (n : ℕ) × Links mesh cut d e n

-- b is at most the four corner darts of the grid.
pub record AtMost (mesh : HalfEdges) (w h : ℕ) (cell : Cells) (b : ℕ) : Type 0 where
  pub first : b ≤ cell 0 0
  pub east : (i : ℕ) → suc i ≡ w → b ≤ mesh.next (cell i 0)
  pub far : (i j : ℕ) → suc i ≡ w → suc j ≡ h → b ≤ mesh.next (mesh.next (cell i j))
  pub north : (j : ℕ) → suc j ≡ h → b ≤ mesh.prev (cell 0 j)

module _ {mesh : HalfEdges} (laws : IsQuadManifold mesh) (cut : Cut) where
  pub links_join : (d e f : ℕ) → AreLinked mesh cut d e → AreLinked mesh cut e f → AreLinked mesh cut d f
  links_join d e f a b = along b.0 f b.1
    where
      along : (n x : ℕ) → Links mesh cut e x n → AreLinked mesh cut d x
      along zero x l = rw (← l) a
      along (suc n) x l = let r = along n l.0 l.1 in (suc r.0, (l.0, r.1, l.2))

  pub step_next : (d e : ℕ) → AreLinked mesh cut d e → AreLinked mesh cut d (mesh.next e)
  step_next d e a = (suc a.0, (e, a.1, inl refl))

  pub step_over : (d e t : ℕ) → AreLinked mesh cut d e → cut e ≡ false → mesh.twin e ≡ Some t → AreLinked mesh cut d t
  step_over d e t a off is = (suc a.0, (e, a.1, inr (off, is)))

  pub step_prev : (d e : ℕ) → AreLinked mesh cut d e → AreLinked mesh cut d (mesh.prev e)
  step_prev d e a = rw (prev_three laws e) (step_next d _ (step_next d _ (step_next d e a)))

  pub step_spin : (d e k : ℕ) → AreLinked mesh cut d e → AreLinked mesh cut d (spin mesh k e)
  step_spin d e zero a = a
  step_spin d e (suc k) a = step_next d _ (step_spin d e k a)

  pub links_low : (d e n : ℕ) → d < mesh.count → Links mesh cut d e n → e < mesh.count
  links_low d e zero l a = rw (← a) l
  links_low d e (suc n) l a = search (rules, links_low d a.0 n l a.1)

-- The side x of a grid has a twin, which is a side of a grid too.
abbrev HasOther : (mesh : HalfEdges) (w h : ℕ) (cell : Cells) (k x : ℕ) → Type 0
HasOther mesh w h cell k x = (t : ℕ) × (mesh.twin x ≡ Some t) × At mesh w h cell (suc (suc k)) t

module _ {mesh : HalfEdges} (laws : IsQuadManifold mesh) {cut : Cut} (full : IsCut mesh cut) where
  pub links_back : (d e n : ℕ) → d < mesh.count → Links mesh cut d e n → AreLinked mesh cut e d
  links_back d e zero l a = (0, sym a)
  links_back d e (suc n) l (c, a, s) =
      let lc = links_low laws _ d c n l a in
      links_join laws _ e c d (elim s [
        | inl s ↦ rw (ap mesh.prev s ∙ laws.prev_next c) at (step_prev laws cut e e (0, refl))
        | inr o ↦ step_over laws _ e e _ (0, refl) (full.alike c e lc o.1 ∙ o.0) (laws.twin_twin c e lc o.1)
      ]) (links_back d c n l a)

  pub linked_back : (d e : ℕ) → d < mesh.count → AreLinked mesh cut d e → AreLinked mesh cut e d
  linked_back d e l a = links_back d e a.0 l a.1

  -- The corner of a grid, and what is linked to it.
  pub first_corner : {w h : ℕ} {cell : Cells} → IsGrid mesh cut w h cell → IsCorner mesh cut (cell 0 0)
  first_corner grid = (grid.low 0 0 grid.wide grid.tall, grid.south_shut 0 grid.wide, grid.west_shut 0 grid.tall)

  -- Over an edge of a cell that is not cut lies another cell. A side of a cell is the side before it of the grid that
  -- is turned by a quarter.
  over : (k : ℕ) {w h : ℕ} {cell : Cells} → IsGrid mesh cut w h cell → (a b x : ℕ) → a < w → b < h
      → x ≡ spin mesh k (cell a b) → cut x ≡ false → HasOther mesh w h cell k x
  over zero grid a zero x la lb e off = absurd (cc (grid.south_shut a la))
  over zero {cell} grid a (suc b) x la lb e off = grind (arith, south laws full grid a b la lb)
  over (suc k) {w} {h} {cell} grid a b x la lb e off =
      let same : w - suc (w - suc a) ≡ a = omega arith in
      search (
        rules,
        turn_back,
        over k (quarter_grid laws full grid) b (w - suc a) x lb (omega arith)
            (cc (same, spin_next laws k (cell a b))) off,
      )
    where
      turn_back : {t : ℕ} → At mesh h w (quarter mesh w cell) (suc (suc k)) t → At mesh w h cell (suc (suc (suc k))) t
      turn_back at = search (rules, spin_next)

  -- b is at most the corner darts of a grid turned by a quarter, which are the same.
  quarter_most : {w h m : ℕ} {cell : Cells} → IsGrid mesh cut w h cell → AtMost mesh w h cell m
      → AtMost mesh h w (quarter mesh w cell) m
  quarter_most {w} {h} {m} {cell} grid least = grind (arith, least.east (w - 1), prev_three laws)

  -- Each corner of the class is one of the four of the grid.
  least_corner : (k : ℕ) {w h m : ℕ} {cell : Cells} → IsGrid mesh cut w h cell → AtMost mesh w h cell m → (a b : ℕ)
      {x : ℕ} → a < w → b < h → x ≡ spin mesh k (cell a b) → cut x ≡ true → cut (mesh.prev x) ≡ true → m ≤ x
  least_corner zero grid least zero zero la lb e on before = rw e least.first
  least_corner zero grid least (suc a) b la lb e on before = absurd (cc (west_open laws full grid a b la lb))
  least_corner zero grid least zero (suc b) la lb e on before = absurd (cc (south_open laws full grid 0 b la lb))
  least_corner (suc k) {w} {h} {m} {cell} grid least a b la lb e on before =
      let same : w - suc (w - suc a) ≡ a = omega arith in
      least_corner k (quarter_grid laws full grid) (quarter_most grid least) b (w - suc a) lb (omega arith)
      (cc (same, spin_next laws k (cell a b))) on before

  module _ {w h : ℕ} {cell : Cells} (grid : IsGrid mesh cut w h cell) where
    pub in_low : (x : ℕ) → In mesh w h cell x → x < mesh.count
    in_low x i =
        let l = step_spin laws cut _ _ i.0 (0, refl) in
        rw i.1.is (links_low laws cut _ _ l.0 (grid.low i.1.a i.1.b i.1.a_low i.1.b_low) l.1)

    -- A class that meets the grid stays in it.
    pub closed : (d e n : ℕ) → Links mesh cut d e n → In mesh w h cell d → In mesh w h cell e
    closed d e zero l i = rw (← l) i
    closed d e (suc n) l i =
        let (k, at) = closed d l.0 n l.1 i in
        elim l.2 [
          | inl s ↦ (suc k, record { a = at.a; b = at.b; a_low = at.a_low; b_low = at.b_low; is = cc (s, at.is) })
          | inr o ↦ (suc (suc k), (grind (arith, over k grid at.a at.b l.0 at.a_low at.b_low at.is o.0)))
        ]

    -- The whole grid is of one class.
    linked_east : (i : ℕ) → i < w → AreLinked mesh cut (cell 0 0) (cell i 0)
    linked_east zero l = (0, refl)
    linked_east (suc i) l =
        let over = step_over laws cut _ _ _ (step_next laws cut _ _ (linked_east i (omega arith)))
        (grid.east_open i 0 l grid.tall) (grid.east i 0 l grid.tall) in
        rw (laws.next_prev _) at (step_next laws cut _ _ over)

    pub linked_cell : (i j : ℕ) → i < w → j < h → AreLinked mesh cut (cell 0 0) (cell i j)
    linked_cell i zero li lj = linked_east i li
    linked_cell i (suc j) li lj = step_over laws cut _ _ _ (step_next laws cut _ _ (step_next laws cut _
        _ (linked_cell i j li (omega arith)))) (grid.north_open i j li lj) (grid.north i j li lj)

    pub linked_in : (x : ℕ) → In mesh w h cell x → AreLinked mesh cut (cell 0 0) x
    linked_in x i = rw i.1.is (step_spin laws cut _ _ i.0 (linked_cell i.1.a i.1.b i.1.a_low i.1.b_low))

    pub first_in : In mesh w h cell (cell 0 0)
    first_in = (0, record { a = 0; b = 0; a_low = grid.wide; b_low = grid.tall; is = refl })

    pub least_in : {m : ℕ} (x : ℕ) → AtMost mesh w h cell m → In mesh w h cell x → IsCorner mesh cut x → m ≤ x
    least_in x least i corner = least_corner i.0 grid least i.1.a i.1.b i.1.a_low i.1.b_low i.1.is corner.1 corner.2

    -- The corner of the grid is linked to that of the grid turned by a quarter.
    quarter_linked : AreLinked mesh cut (cell 0 0) (quarter mesh w cell 0 0)
    quarter_linked = step_next laws cut _ _ (linked_cell (w - 1) 0 (omega (arith, grid.wide)) grid.tall)

  -- The four are corners of the class.
  pub at_most : {w h : ℕ} {cell : Cells} (grid : IsGrid mesh cut w h cell) (m : ℕ)
      → ((x : ℕ) → AreLinked mesh cut (cell 0 0) x → IsCorner mesh cut x → m ≤ x) → AtMost mesh w h cell m
  at_most {w} {h} {cell} grid m least =
      let east = quarter_grid laws full grid in
      let far = quarter_grid laws full east in
      let north = quarter_grid laws full far in
      let to_east = quarter_linked grid in
      let to_far = links_join laws cut _ _ _ to_east (quarter_linked east) in
      let to_north = links_join laws cut _ _ _ to_far (quarter_linked far) in
      let here = least _ (0, refl) (first_corner grid) in
      let at_east = least _ to_east (first_corner east) in
      let at_far = least _ to_far (first_corner far) in
      let at_north = least _ to_north (first_corner north) in
      grind (arith, prev_three laws)

  -- Two patches.
  pub least_first : {w h : ℕ} {cell : Cells} → IsPatch mesh cut w h cell → AtMost mesh w h cell (cell 0 0)
  least_first p = record { first = omega arith; east = p.least_east; far = p.least_far; north = p.least_north }

  -- Patches with a dart in common are one.
  pub one_patch : {w h v g : ℕ} {cell tile : Cells} → IsPatch mesh cut w h cell → IsPatch mesh cut v g tile → (x : ℕ)
      → In mesh w h cell x → In mesh v g tile x → AreOne w h v g cell tile
  one_patch one two x ix iy =
      let below = least_in two.grid _ (least_first two) (there one.grid two.grid ix iy) (first_corner one.grid) in
      let above = least_in one.grid _ (least_first one) (there two.grid one.grid iy ix) (first_corner two.grid) in
      one_grid laws full one.grid two.grid (omega arith)
    where
      there : {w h v g : ℕ} {cell tile : Cells} → IsGrid mesh cut w h cell → IsGrid mesh cut v g tile
          → In mesh w h cell x → In mesh v g tile x → In mesh v g tile (cell 0 0)
      there a b i j = let back = linked_back _ x (a.low 0 0 a.wide a.tall) (linked_in a x i) in closed b x _ _ back.1 j

-- The least of a list.

-- It is at most each of the numbers, and at least what all of them are.
pub least_high : (xs : List ℕ) (k : ℕ) → k < length xs → least_of xs ≤ get_or xs k 0
least_high (x ∷ []) zero l = omega arith
least_high (x ∷ y ∷ xs) zero l = omega arith
least_high (x ∷ y ∷ xs) (suc k) l = omega (arith, least_high (y ∷ xs) k (omega arith))
least_high _ _ l = absurd (omega arith)

pub least_low : (xs : List ℕ) (f : ℕ) → 0 < length xs → ((k : ℕ) → k < length xs → f ≤ get_or xs k 0) → f ≤ least_of xs
least_low [] f some each = absurd (omega arith)
least_low (x ∷ []) f some each = each 0 (omega arith)
least_low (x ∷ y ∷ xs) f some each =
    omega (arith, each 0 (omega arith), least_low (y ∷ xs) f (omega arith) (λ k l. each (suc k) (omega arith)))

-- It is one of them.
pub least_there : (xs : List ℕ) → 0 < length xs → (k : ℕ) × (k < length xs) × (get_or xs k 0 ≡ least_of xs)
least_there [] some = absurd (omega arith)
least_there (x ∷ []) some = (0, omega arith, refl)
least_there (x ∷ y ∷ xs) some =
    let r = least_there (y ∷ xs) (omega arith) in
    elim (cases_lt (least_of (y ∷ xs)) x) [
      | inl l ↦ (suc r.0, omega (arith, r.1), r.2 ∙ omega arith)
      | inr g ↦ (0, omega arith, omega arith)
    ]
