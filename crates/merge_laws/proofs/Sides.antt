-- Whole sides of patches: a dart lies on one at one place, and the four of a patch begin at its four corners.
use Rattle.std.proofs.Common.{◌≡◌, ◌⊎◌, ℕ, zero, suc, ◌+◌, ◌-◌, ◌<◌, true, false, Some, ◌∙◌, ap, refl, inl}
use Rattle.std.proofs.Common.{rules, arith}
use Rattle.def_mesh.specs.HalfEdges.{HalfEdges, IsQuadManifold}
use Rattle.def_cut.specs.{Cuts.Cut, Cuts.IsCorner, Cuts.IsCut, Grids.Cells, Grids.IsGrid, Steps.spin}
use Rattle.def_cut.specs.{Steps.step_east, Steps.easts}
use Rattle.cut_laws.proofs.Folds.{twin_same, south_open, west_open, spin_next, quarter, quarter_grid}
use Rattle.cut_laws.proofs.{Rows.east_twin, Rows.west_off, Rows.row_low, Rows.row_south, Rows.grow, Rows.grown_grid}
use Rattle.cut_laws.proofs.Classes.{In, AreLinked, linked_in}
use Rattle.{cut_laws.specs.Grown.grown, cut_laws.specs.Grown.IsRow, def_merge.specs.Joins.IsWholeSide}

-- One step on, and then straight on.
pub easts_front : (mesh : HalfEdges) (d i : ℕ) → easts mesh (step_east mesh d) i ≡ easts mesh d (suc i)
easts_front mesh d zero = refl
easts_front mesh d (suc i) = ap (step_east mesh) (easts_front mesh d i)

-- The whole side of size n from c, with dart x at place k.
pub record StandsOn (mesh : HalfEdges) (cut : Cut) (c n k x : ℕ) : Type 0 where
  pub side : IsWholeSide mesh cut c n
  pub low : k < n
  pub at : easts mesh c k ≡ x

-- The first darts of the four sides of a grid.
abbrev pub IsFirstDart : (mesh : HalfEdges) (w h : ℕ) (cell : Cells) (c : ℕ) → Type 0
IsFirstDart mesh w h cell c = (c ≡ cell 0 0) ⊎ ((c ≡ mesh.next (cell (w - 1) 0))
    ⊎ ((c ≡ mesh.next (mesh.next (cell (w - 1) (h - 1)))) ⊎ (c ≡ mesh.next (mesh.next (mesh.next (cell 0 (h - 1)))))))

module _ {mesh : HalfEdges} (laws : IsQuadManifold mesh) {cut : Cut} (full : IsCut mesh cut) where
  module _ {s n : ℕ} (side : IsWholeSide mesh cut s n) where
    row : IsRow mesh cut s n
    row = record { wide = side.some; low = side.corner.0; inside = side.inside; ends = side.ends }

    pub side_low : (k : ℕ) → k < n → easts mesh s k < mesh.count
    side_low k l = row_low laws full s n row k l

    pub side_on : (k : ℕ) → k < n → cut (easts mesh s k) ≡ true
    side_on k l = row_south laws full s n row side.corner.1 k l

    pub side_link : (k : ℕ) → suc k < n
        → mesh.twin (mesh.next (easts mesh s k)) ≡ Some (mesh.prev (easts mesh s (suc k)))
    side_link k l = east_twin laws full (easts mesh s k) (side_low k (omega arith)) (side.inside k l)

    -- Only its first dart leaves a corner.
    pub side_before : (k : ℕ) → suc k < n → cut (mesh.prev (easts mesh s (suc k))) ≡ false
    side_before k l = west_off laws full (easts mesh s k) (side_low k (omega arith)) (side.inside k l)

    pub first_place : (k : ℕ) → k < n → cut (mesh.prev (easts mesh s k)) ≡ true → k ≡ 0
    first_place zero l on = refl
    first_place (suc k) l on = absurd (cc (side_before k l))

    pub side_from : (k : ℕ) → suc k < n → mesh.from (easts mesh s (suc k)) ≡ mesh.from (mesh.next (easts mesh s k))
    side_from k l = search (rules, side_link k l, side_low k)

  -- Sides with a dart in common are one.
  pub one_place : {s n r m : ℕ} (k j : ℕ) → IsWholeSide mesh cut s n → IsWholeSide mesh cut r m → k < n → j < m
      → easts mesh s k ≡ easts mesh r j → (s ≡ r) × (k ≡ j)
  one_place zero zero one two lk lj e = (e, refl)
  one_place zero (suc j) one two lk lj e = absurd (cc (one.corner.2, side_before two j lj))
  one_place (suc k) zero one two lk lj e = absurd (cc (two.corner.2, side_before one k lk))
  one_place {s} {n} {r} {m} (suc k) (suc j) one two lk lj e =
      let lx = laws.next_low _ (side_low one k (omega arith)) in
      let ly = laws.next_low _ (side_low two j (omega arith)) in
      search (rules, twin_same laws, side_link one k lk, side_link two j lj, one_place k j one two)

  pub one_size : {s n m : ℕ} → IsWholeSide mesh cut s n → IsWholeSide mesh cut s m → n ≡ m
  one_size {n} {m} one two = grind (arith, one.ends (n - 1), two.inside (n - 1), two.ends (m - 1), one.inside (m - 1))

  -- The grid that stands on a whole side.
  pub grid_on : {s n : ℕ} → IsWholeSide mesh cut s n → (h : ℕ) × IsGrid mesh cut n h (grown mesh s)
  grid_on {s} {n} side =
      let g = grow laws full s side.corner in
      let other : IsWholeSide mesh cut s g.0 = search rules in
      let same = one_size other side in (g.1, rw same at (grown_grid laws full s g.0 g.1 side.corner g.2))

  -- Its darts are of one class.
  pub side_linked : {s n : ℕ} → IsWholeSide mesh cut s n → (k : ℕ) → k < n → AreLinked mesh cut s (easts mesh s k)
  side_linked {s} side k l =
      let grid = (grid_on side).1 in
      linked_in laws full grid (easts mesh s k) (0, record { a = k; b = 0; a_low = l; b_low = grid.tall; is = refl })

  -- The sides of a grid: each is the south side of the grid turned by as many quarters.
  module _ {w h : ℕ} {cell : Cells} (grid : IsGrid mesh cut w h cell) where
    pub along_south : (i : ℕ) → i < w → easts mesh (cell 0 0) i ≡ cell i 0
    along_south zero l = refl
    along_south (suc i) l = grind (arith, along_south i, grid.east i 0 l grid.tall)

    pub south_side : IsWholeSide mesh cut (cell 0 0) w
    south_side = record {
      some = grid.wide;
      corner = (grid.low 0 0 grid.wide grid.tall, grid.south_shut 0 grid.wide, grid.west_shut 0 grid.tall);
      inside = λ k l. ap (λ x. cut (mesh.next x)) (along_south k (omega arith)) ∙ grid.east_open k 0 l grid.tall;
      ends = λ k e. ap (λ x. cut (mesh.next x)) (along_south k (omega arith)) ∙ grid.east_shut k 0 e grid.tall;
    }

    -- The first darts of the sides are the same from each quarter.
    quarter_first : {c : ℕ} → IsFirstDart mesh h w (quarter mesh w cell) c → IsFirstDart mesh w h cell c
    quarter_first first =
        let z : w - suc (w - 1) ≡ 0 = omega arith in
        grind (arith, laws.four_sides (cell 0 0))

  module _ {w h : ℕ} {cell : Cells} (grid : IsGrid mesh cut w h cell) where
    pub along_east : (j : ℕ) → j < h → easts mesh (mesh.next (cell (w - 1) 0)) j ≡ mesh.next (cell (w - 1) j)
    along_east = along_south (quarter_grid laws full grid)

    pub east_side : IsWholeSide mesh cut (mesh.next (cell (w - 1) 0)) h
    east_side = south_side (quarter_grid laws full grid)

    half_grid : IsGrid mesh cut w h (quarter mesh h (quarter mesh w cell))
    half_grid = quarter_grid laws full (quarter_grid laws full grid)

    pub along_north : (k i : ℕ) → k + suc i ≡ w → easts mesh (mesh.next (mesh.next (cell (w - 1) (h - 1)))) k
        ≡ mesh.next (mesh.next (cell i (h - 1)))
    along_north k i e = grind (arith, along_south half_grid k)

    pub north_side : IsWholeSide mesh cut (mesh.next (mesh.next (cell (w - 1) (h - 1)))) w
    north_side = south_side half_grid

    pub along_west : (k j : ℕ) → k + suc j ≡ h → easts mesh (mesh.next (mesh.next (mesh.next (cell 0 (h - 1))))) k
        ≡ mesh.next (mesh.next (mesh.next (cell 0 j)))
    along_west k j e = grind (arith, along_south (quarter_grid laws full half_grid) k)

    pub west_side : IsWholeSide mesh cut (mesh.next (mesh.next (mesh.next (cell 0 (h - 1))))) h
    west_side = grind (arith, south_side (quarter_grid laws full half_grid))

  -- A corner of a grid is the first dart of one of them.
  corner_at : (q : ℕ) {w h : ℕ} {cell : Cells} → IsGrid mesh cut w h cell → (i j : ℕ) {x : ℕ} → i < w → j < h
      → x ≡ spin mesh q (cell i j) → IsCorner mesh cut x → IsFirstDart mesh w h cell x
  corner_at zero grid zero zero li lj e corner = inl e
  corner_at zero grid (suc i) j li lj e corner = absurd (cc (west_open laws full grid i j li lj, corner.2))
  corner_at zero grid i (suc j) li lj e corner = absurd (cc (south_open laws full grid i j li lj, corner.1))
  corner_at (suc q) {w} {h} {cell} grid i j li lj e corner =
      let same : w - suc (w - suc i) ≡ i = omega arith in
      quarter_first grid (corner_at q (quarter_grid laws full grid) j (w - suc i) lj (omega arith)
      (cc (same, spin_next laws q (cell i j))) corner)

  pub corner_in : {w h : ℕ} {cell : Cells} → IsGrid mesh cut w h cell → (x : ℕ) → In mesh w h cell x
      → IsCorner mesh cut x → IsFirstDart mesh w h cell x
  corner_in grid x i corner = corner_at i.0 grid i.1.a i.1.b i.1.a_low i.1.b_low i.1.is corner
