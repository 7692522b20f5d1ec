-- Small facts on the half edges of a manifold.
use Rattle.std.proofs.Common.{rules}
use Rattle.std.proofs.Common.{◌≡◌, ℕ, ◌<◌, Some, sym, ◌⊎◌, zero, suc, inl, ◌-◌, ◌/◌, false, ◌∙◌, ap, refl, arith}
use Rattle.{std.proofs.lemmas.Bool.cases_eq, cut_laws.proofs.Pigeon.same_if}
use Rattle.def_mesh.specs.HalfEdges.{HalfEdges, Turns, IsQuadManifold}
use Rattle.def_cut.specs.{Cuts.Cut, Cuts.IsUncut, Cuts.IsCut, Grids.Cells, Grids.IsGrid, Steps.spin, Laws.NoFoldLaw}

module _ {mesh : HalfEdges} (laws : IsQuadManifold mesh) where
  -- The dart before d is the third after it.
  pub prev_three : (d : ℕ) → mesh.prev d ≡ mesh.next (mesh.next (mesh.next d))
  prev_three d = cc (laws.four_sides (mesh.prev d), laws.next_prev d)

  -- Two steps back are two steps on.
  pub prev_twice : (d : ℕ) → mesh.prev (mesh.prev d) ≡ mesh.next (mesh.next d)
  prev_twice d = cc (prev_three _, laws.next_prev d)

  -- Next is injective, and so is prev.
  pub next_same : (d e : ℕ) → mesh.next d ≡ mesh.next e → d ≡ e
  next_same d e s = cc (laws.prev_next d, laws.prev_next e)

  pub prev_same : (d e : ℕ) → mesh.prev d ≡ mesh.prev e → d ≡ e
  prev_same d e s = cc (laws.next_prev d, laws.next_prev e)

  -- Darts with one twin are one.
  pub twin_same : (d e t : ℕ) → d < mesh.count → e < mesh.count → mesh.twin d ≡ Some t → mesh.twin e ≡ Some t → d ≡ e
  twin_same d e t ld le a b = cc (laws.twin_twin d t ld a, laws.twin_twin e t le b)

  -- No dart is its own twin.
  pub no_self : (d : ℕ) → d < mesh.count → mesh.twin d ≡ Some d → ⊥
  no_self d l t = (laws.corners_differ d l).0 ((laws.twin_ends d d l t).0)

  -- A turn past one face stays at the vertex.
  pub turn_from : (d e : ℕ) → d < mesh.count → mesh.twin (mesh.prev d) ≡ Some e → mesh.from e ≡ mesh.from d
  turn_from d e l t = cc ((laws.twin_ends _ e (laws.prev_low d l) t).0, laws.next_prev d)

  pub turn_low : (d e : ℕ) → d < mesh.count → mesh.twin (mesh.prev d) ≡ Some e → e < mesh.count
  turn_low d e l t = laws.twin_low _ e (laws.prev_low d l) t

  -- Turns from two darts to one come from one.
  pub turn_same : (d e : ℕ) {t : ℕ} → d < mesh.count → e < mesh.count → mesh.twin (mesh.prev d) ≡ Some t
      → mesh.twin (mesh.prev e) ≡ Some t → d ≡ e
  turn_same d e {t} ld le a b = prev_same d e (twin_same _ _ t (laws.prev_low d ld) (laws.prev_low e le) a b)

  -- A step after others round a face is a step before them.
  pub spin_next : (k x : ℕ) → spin mesh k (mesh.next x) ≡ mesh.next (spin mesh k x)
  spin_next zero x = refl
  spin_next (suc k) x = ap mesh.next (spin_next k x)

  -- Where two turns lead back, the fan has two darts.
  pub two_darts : (d e : ℕ) → d < mesh.count → e < mesh.count → mesh.twin (mesh.prev d) ≡ Some e
      → mesh.twin (mesh.prev e) ≡ Some d → (n x : ℕ) → Turns mesh d x n → (x ≡ d) ⊎ (x ≡ e)
  two_darts d e ld le one two zero x t = inl (sym t)
  two_darts d e ld le one two (suc n) x t =
      grind (arith, two_darts d e ld le one two n t.0 t.1, turn_same x d, turn_same x e, t.3)

-- Two grids are one.
pub record AreOne (w h v g : ℕ) (cell tile : Cells) : Type 0 where
  pub wide : w ≡ v
  pub tall : h ≡ g
  pub cells : (i j : ℕ) → i < w → j < h → cell i j ≡ tile i j

-- A grid, turned by a quarter and as it is.

-- The cells of a grid turned by a quarter: what was its east side is its south side.
abbrev pub quarter : (mesh : HalfEdges) (w : ℕ) (cell : Cells) → Cells
quarter mesh w cell i j = mesh.next (cell (w - suc j) i)

module _ {mesh : HalfEdges} (laws : IsQuadManifold mesh) {cut : Cut} (full : IsCut mesh cut) where
  module _ {w h : ℕ} {cell : Cells} (grid : IsGrid mesh cut w h cell) where
    -- The links from the other side.
    pub west : (i j : ℕ) → suc i < w → j < h → mesh.twin (mesh.prev (cell (suc i) j)) ≡ Some (mesh.next (cell i j))
    west i j li lj = laws.twin_twin _ _ (laws.next_low _ (grid.low i j (omega arith) lj)) (grid.east i j li lj)

    pub north_low : (i j : ℕ) → i < w → j < h → mesh.next (mesh.next (cell i j)) < mesh.count
    north_low i j li lj = laws.next_low _ (laws.next_low _ (grid.low i j li lj))

    pub south : (i j : ℕ) → i < w → suc j < h → mesh.twin (cell i (suc j)) ≡ Some (mesh.next (mesh.next (cell i j)))
    south i j li lj = laws.twin_twin _ _ (north_low i j li (omega arith)) (grid.north i j li lj)

    pub west_open : (i j : ℕ) → suc i < w → j < h → cut (mesh.prev (cell (suc i) j)) ≡ false
    west_open i j li lj = full.alike _ _
        (laws.next_low _ (grid.low i j (omega arith) lj)) (grid.east i j li lj) ∙ grid.east_open i j li lj

    pub south_open : (i j : ℕ) → i < w → suc j < h → cut (cell i (suc j)) ≡ false
    south_open i j li lj = full.alike _ _ (north_low i j li (omega arith))
        (grid.north i j li lj) ∙ grid.north_open i j li lj

    -- A grid turned by a quarter is a grid.
    pub quarter_grid : IsGrid mesh cut h w (quarter mesh w cell)
    quarter_grid = record {
      wide = grid.tall;
      tall = grid.wide;
      low = λ i j li lj. laws.next_low _ (grid.low (w - suc j) i (omega arith) li);
      east = λ i j li lj. rw laws.prev_next (grid.north (w - suc j) i (omega arith) li);
      north = λ i j li lj. grind (arith, prev_three laws (cell (w - suc j) i), west (w - suc (suc j)) i);
      east_open = λ i j li lj. grid.north_open (w - suc j) i (omega arith) li;
      north_open = λ i j li lj. grind (arith, prev_three laws (cell (w - suc j) i), west_open (w - suc (suc j)) i);
      south_shut = λ i li. grid.east_shut (w - 1) i (omega (arith, grid.wide)) li;
      west_shut = λ j lj. rw laws.prev_next (grid.south_shut (w - suc j) (omega arith));
      east_shut = λ i j e lj. grid.north_shut (w - suc j) i (omega arith) e;
      north_shut = search (rules, prev_three laws);
    }

  -- A cell that two grids have in common stands at one place in both, and both begin with one cell.
  common_west : {w h v g : ℕ} {cell tile : Cells} → IsGrid mesh cut w h cell → IsGrid mesh cut v g tile
      → (i a : ℕ) {j b : ℕ} → i < w → a < v → j < h → b < g → cell i j ≡ tile a b → (i ≡ a) × (cell 0 j ≡ tile 0 b)
  common_west one two zero zero li la lj lb e = (refl, e)
  common_west one two (suc i) (suc a) {j} {b} li la lj lb e =
      let same = next_same laws _ _ (cc (west one i j li lj, west two a b la lb)) in
      let (place, first) = common_west one two i a (omega arith) (omega arith) lj lb same in
      (ap suc place, first)
  common_west one two zero (suc a) {j} {b} li la lj lb e = absurd (cc (one.west_shut j lj, west_open two a b la lb))
  common_west one two (suc i) zero {j} {b} li la lj lb e = absurd (cc (two.west_shut b lb, west_open one i j li lj))

  module _ {w h v g : ℕ} {cell tile : Cells} (one : IsGrid mesh cut w h cell) (two : IsGrid mesh cut v g tile) where
    common_south : {i a : ℕ} (j b : ℕ) → i < w → a < v → j < h → b < g → cell i j ≡ tile a b
        → (j ≡ b) × (cell i 0 ≡ tile a 0)
    common_south {i} {a} j b li la lj lb e =
        let x : w - suc (w - suc i) ≡ i = omega arith in
        let y : v - suc (v - suc a) ≡ a = omega arith in
        let r = common_west (quarter_grid one) (quarter_grid two) j b {j = w - suc i} {b = v - suc a} lj lb
        (omega arith) (omega arith) (cc (x, y)) in
        (r.0, next_same laws _ _ (cc (x, y, r.1)))

    common : {i a j b : ℕ} → i < w → a < v → j < h → b < g → cell i j ≡ tile a b
        → (i ≡ a) × (j ≡ b) × (cell 0 0 ≡ tile 0 0)
    common {i} {a} {j} {b} li la lj lb e =
        grind (arith, common_west one two i a li la lj lb e, common_south j b one.wide two.wide lj lb)

    -- Grids with one first cell have the same cells.
    cells_east : (cell 0 0 ≡ tile 0 0) → (i : ℕ) → i < w → i < v → cell i 0 ≡ tile i 0
    cells_east e zero lw lv = e
    cells_east e (suc i) lw lv = prev_same laws _ _ (search (rules, cells_east e i (omega arith) (omega arith)))

    cells_north : (i j : ℕ) → i < w → i < v → cell i 0 ≡ tile i 0 → j < h → j < g → cell i j ≡ tile i j
    cells_north i zero lw lv e lh lg = e
    cells_north i (suc j) lw lv e lh lg = search (rules, cells_north i j lw lv e (omega arith) (omega arith))

    not_wider : cell 0 0 ≡ tile 0 0 → w < v → ⊥
    not_wider e l = grind (arith, one.east_shut (w - 1) 0, cells_east e (w - 1), two.east_open (w - 1) 0)

  same_wide : {w h v g : ℕ} {cell tile : Cells} → IsGrid mesh cut w h cell → IsGrid mesh cut v g tile
      → cell 0 0 ≡ tile 0 0 → w ≡ v
  same_wide one two e = same_if (not_wider one two e) (not_wider two one (sym e))

  -- They are one.
  pub one_grid : {w h v g : ℕ} {cell tile : Cells} → IsGrid mesh cut w h cell → IsGrid mesh cut v g tile
      → cell 0 0 ≡ tile 0 0 → AreOne w h v g cell tile
  one_grid {w} {h} {v} {g} {cell} {tile} one two e =
      let wide = same_wide one two e in
      let last = cells_east one two e (w - 1) (omega (arith, one.wide)) (omega (arith, one.wide, wide)) in
      grind (arith, same_wide (quarter_grid one) (quarter_grid two), cells_north one two, cells_east one two e)

  module _ {w h : ℕ} {cell : Cells} (grid : IsGrid mesh cut w h cell) where
    two_turns : (d e : ℕ) → d < mesh.count → mesh.twin (mesh.prev d) ≡ Some e → mesh.twin (mesh.prev e) ≡ Some d
        → cut d ≡ false → cut (mesh.prev d) ≡ false → cut e ≡ false → cut (mesh.prev e) ≡ false → ⊥
    two_turns d e ld one two off_d off_pd off_e off_pe = let c = full.crossed d ld uncut in search rules
      where
        uncut : IsUncut mesh cut (mesh.from d)
        uncut x lx s =
            let (n, t) = laws.one_fan d x ld lx (sym s) in
            grind (arith, two_darts laws d e ld (turn_low laws d e ld one) one two n x t)

    at_vertex : (i j : ℕ) → suc i < w → suc j < h → cell i j ≡ mesh.next (mesh.next (cell (suc i) (suc j))) → ⊥
    at_vertex i j li lj e =
        let d = cell (suc i) (suc j) in
        let f = mesh.prev (cell (suc i) j) in
        grind (arith, prev_three laws d, prev_three laws f, two_turns d f (grid.low _ _ li lj), grid.east i j li)

    -- A grid is not itself turned by a half: in its middle there would be a face, an edge or a vertex that is turned.
    not_half : ((x y : ℕ) → x < w → y < h → cell x y ≡ mesh.next (mesh.next (cell (w - suc x) (h - suc y)))) → ⊥
    not_half half =
        let x = (w - 1) / 2 in
        let y = (h - 1) / 2 in
        let lx : x < w = omega (arith, grid.wide) in
        let ly : y < h = omega (arith, grid.tall) in
        let e = half x y lx ly in
        let face = laws.corners_differ (cell x y) (grid.low x y lx ly) in
        let third = prev_three laws (cell (suc x) y) in
        let column = cases_eq (w - suc x) x in
        let row = cases_eq (h - suc y) y in
        grind (arith, no_self laws, grid.east x y, grid.north x y, at_vertex x y)

    no_half_turn : (i j a b : ℕ) → i < w → j < h → a < w → b < h → cell i j ≡ mesh.next (mesh.next (cell a b)) → ⊥
    no_half_turn i j a b li lj la lb e =
        let x : w - suc (w - suc a) ≡ a = omega arith in
        let y : h - suc (h - suc b) ≡ b = omega arith in
        let turned = quarter_grid (quarter_grid grid) in
        let c = common grid turned {a = w - suc a} {b = h - suc b} li (omega arith) lj (omega arith) (cc (e, x, y)) in
        not_half (one_grid grid turned c.2).cells

    -- No quarter turn either: done twice it is a half turn.
    no_quarter : (i j a b : ℕ) → i < w → j < h → a < w → b < h → cell i j ≡ mesh.next (cell a b) → ⊥
    no_quarter i j a b li lj la lb e =
        let x : w - suc (w - suc a) ≡ a = omega arith in
        let turned = quarter_grid grid in
        let c = common grid turned {a = b} {b = w - suc a} li lb lj (omega arith) (cc (e, x)) in
        let one = one_grid grid turned c.2 in
        not_half (λ x y lx ly. cc (one.cells x y lx ly, one.cells (w - suc y) x (omega arith) (omega arith)))

    -- A cell with a side in common with another is that cell.
    pub no_fold : (k i j a b : ℕ) → i < w → j < h → a < w → b < h → cell i j ≡ spin mesh k (cell a b)
        → (i ≡ a) × (j ≡ b)
    no_fold zero i j a b li lj la lb e = let c = common grid grid li la lj lb e in (c.0, c.1)
    no_fold (suc zero) i j a b li lj la lb e = absurd (no_quarter i j a b li lj la lb e)
    no_fold (suc (suc zero)) i j a b li lj la lb e = absurd (no_half_turn i j a b li lj la lb e)
    no_fold (suc (suc (suc zero))) i j a b li lj la lb e = grind (arith, no_quarter a b i j la lb li lj)
    no_fold (suc (suc (suc (suc k)))) i j a b li lj la lb e = no_fold k i j a b li lj la lb (e ∙ laws.four_sides _)

pub no_fold_law : NoFoldLaw
no_fold_law mesh cut w h cell laws full grid i j a b k li lj la lb e = no_fold laws full grid k i j a b li lj la lb e
