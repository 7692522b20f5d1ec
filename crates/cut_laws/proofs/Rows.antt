-- Rows of cells in a full cut: they stay straight, stand one over the other with one width, and end.
use Rattle.std.proofs.Common.{◌≡◌, ℕ, zero, suc, ◌<◌, ◌≤◌, true, false, Some, sym, ◌∙◌, ap, refl, inl}
use Rattle.std.proofs.Common.{rules, inr, arith, ◌⊎◌, Bool}
use Rattle.std.proofs.lemmas.Bool.{false_from_ne_true, cases_Bool}
use Rattle.def_mesh.specs.HalfEdges.{HalfEdges, IsQuadManifold}
use Rattle.def_cut.specs.{Cuts.Cut, Cuts.HasCross, Cuts.IsCut, Cuts.IsCorner, Steps.or_zero}
use Rattle.def_cut.specs.{Steps.step_east, Steps.step_north, Steps.easts, Steps.norths, Grids.IsGrid, Laws.GridLaw}
use Rattle.cut_laws.{specs.Grown.IsRow, specs.Grown.grown, specs.Grown.IsGrown, proofs.Pigeon.comes_back}
use Rattle.cut_laws.proofs.Folds.{prev_three, prev_twice, turn_low, twin_same}
use Rattle.cut_laws.proofs.Crosses.{turned, some_turn, low_b, low_c, at_c}

-- The edges of d and of the dart before it are not cut.
abbrev pub IsOpen : (mesh : HalfEdges) (cut : Cut) (d : ℕ) → Type 0
IsOpen mesh cut d = (cut d ≡ false) × (cut (mesh.prev d) ≡ false)

-- The first number up to a bound that passes a test.
pub record IsFirst (p : ℕ → Bool) (k : ℕ) : Type 0 where
  pub on : p k ≡ true
  pub before : (i : ℕ) → i < k → p i ≡ false

pub first_or_none : (p : ℕ → Bool) (n : ℕ) → ((k : ℕ) × (k < n) × IsFirst p k) ⊎ ((i : ℕ) → i < n → p i ≡ false)
first_or_none p zero = inr (λ i l. absurd (omega arith))
first_or_none p (suc n) = grind (arith, first_or_none p n, cases_Bool (p n))

-- A column is a row of the mesh turned by a quarter.
pub norths_turned : (mesh : HalfEdges) (d j : ℕ) → mesh.next (norths mesh d j) ≡ easts mesh (mesh.next d) j
norths_turned mesh d zero = refl
norths_turned mesh d (suc j) = ap (step_east mesh) (norths_turned mesh d j)

module _ {mesh : HalfEdges} (laws : IsQuadManifold mesh) {cut : Cut} (full : IsCut mesh cut) where
  -- Where the edge is not cut it has two darts.
  pub twin_there : (d : ℕ) → d < mesh.count → cut d ≡ false → (t : ℕ) × (mesh.twin d ≡ Some t)
  twin_there d l off = (or_zero (mesh.twin d), grind (arith, full.boundary d l))

  pub east_twin : (d : ℕ) → d < mesh.count → cut (mesh.next d) ≡ false → mesh.twin (mesh.next d)
      ≡ Some (mesh.prev (step_east mesh d))
  east_twin d l off = search rules

  pub north_twin : (d : ℕ) → d < mesh.count → cut (mesh.next (mesh.next d)) ≡ false
      → mesh.twin (mesh.next (mesh.next d)) ≡ Some (step_north mesh d)
  north_twin d l off = search rules

  pub east_low : (d : ℕ) → d < mesh.count → cut (mesh.next d) ≡ false → step_east mesh d < mesh.count
  east_low d l off = search rules

  pub north_low : (d : ℕ) → d < mesh.count → cut (mesh.next (mesh.next d)) ≡ false → step_north mesh d < mesh.count
  north_low d l off = laws.twin_low _ _ (laws.next_low _ (laws.next_low d l)) (north_twin d l off)

  -- The edge west of the cell that lies east is not cut.
  pub west_off : (d : ℕ) → d < mesh.count → cut (mesh.next d) ≡ false → cut (mesh.prev (step_east mesh d)) ≡ false
  west_off d l off = full.alike _ _ (laws.next_low d l) (east_twin d l off) ∙ off

  -- Two neighbouring edges at a vertex that are not cut: then the next one is not cut either, one way round ..
  open_turn : {d e : ℕ} → d < mesh.count → IsOpen mesh cut d → mesh.twin (mesh.prev d) ≡ Some e → IsOpen mesh cut e
  open_turn {d} {e} l free t =
      let here = full.alike _ e (laws.prev_low d l) t ∙ free.1 in
      let back = laws.twin_twin _ e (laws.prev_low d l) t in
      let gap = full.gaps _ (laws.prev_low e (turn_low laws d e l t)) in
      (here, false_from_ne_true _ (λ on. grind (arith, gap on, laws.next_prev)))

  -- .. and so all the way round, back to the first.
  turn_is : {d : ℕ} → d < mesh.count → IsOpen mesh cut d → mesh.twin (mesh.prev d) ≡ Some (turned mesh d 1)
  turn_is {d} l free = let t = twin_there _ (laws.prev_low d l) free.1 in cc

  turns_open : {d : ℕ} → d < mesh.count → IsOpen mesh cut d → (n : ℕ) → (turned mesh d n < mesh.count)
      × IsOpen mesh cut (turned mesh d n)
  turns_open l free zero = (l, free)
  turns_open {d} l free (suc n) = search (rules, turn_is, open_turn, turn_low, turns_open l free n)

  -- Two neighbouring edges that are not cut: no edge at the vertex is cut.
  pub no_cut : (d : ℕ) → d < mesh.count → IsOpen mesh cut d → (e : ℕ) → e < mesh.count → mesh.from e ≡ mesh.from d
      → IsOpen mesh cut e
  no_cut d l free e le s =
      let (j, is) = some_turn laws {g = turned mesh d} (record { low = l; at = refl })
      (λ n. let o = turns_open l free n in turn_is o.0 o.1) e (record { low = le; at = s }) in
      rw is at (turns_open l free j).1

  pub cross_at : (d : ℕ) → d < mesh.count → IsOpen mesh cut d → HasCross mesh d
  cross_at d l free = full.crossed d l (no_cut d l free)

  -- The west edge goes on to the north.
  pub west_on : (d : ℕ) → d < mesh.count → cut (mesh.prev d) ≡ true → cut (mesh.next (mesh.next d)) ≡ false
      → cut (mesh.prev (step_north mesh d)) ≡ true
  west_on d l on off =
      let meets : mesh.from (mesh.prev d) ≡ mesh.from (step_north mesh d) = search (rules, prev_three) in
      let south = full.alike _ _ (laws.next_low _ (laws.next_low d l)) (north_twin d l off) ∙ off in
      grind (arith, no_cut, north_low d l off)

  -- The north edges on both sides of an east edge that is not cut are cut or not together.
  pub north_alike : (d : ℕ) → d < mesh.count → cut (mesh.next d) ≡ false
      → cut (mesh.next (mesh.next (step_east mesh d))) ≡ cut (mesh.next (mesh.next d))
  north_alike d l off =
      let meets = (laws.twin_ends _ _ (laws.next_low d l) (east_twin d l off)).0 in
      grind (arith, no_cut, east_low d l off, west_off d l off, prev_twice laws)

  -- East and north of a cell without a cut edge there: the edge between the two cells above is not cut, and both ways
  -- lead to one cell.
  pub square : (d : ℕ) → d < mesh.count → cut (mesh.next d) ≡ false → cut (mesh.next (mesh.next d)) ≡ false
      → (cut (mesh.next (step_north mesh d)) ≡ false)
      × (step_east mesh (step_north mesh d) ≡ step_north mesh (step_east mesh d))
  square d l off up =
      let x = mesh.next (mesh.next d) in
      let lx : x < mesh.count = laws.next_low (mesh.next d) (laws.next_low d l) in
      let free : IsOpen mesh cut x = (up, ap cut (laws.prev_next (mesh.next d)) ∙ off) in
      let (a, b, c, is) = cross_at x lx free in
      let lc = low_c laws x a b c lx is in
      let shut = no_cut x lx free c lc (at_c laws x a b c lx is) in
      let back = laws.twin_twin (mesh.prev b) c (laws.prev_low b (low_b laws x a b c lx is)) is.third in
      let last = laws.twin_twin (mesh.prev c) x (laws.prev_low c lc) is.last in
      grind (arith, laws.prev_next, laws.next_prev, prev_twice laws, east_twin d l off, north_twin d l up)

  -- A row.
  pub row_low : (s w : ℕ) → IsRow mesh cut s w → (i : ℕ) → i < w → easts mesh s i < mesh.count
  row_low s w row zero l = row.low
  row_low s w row (suc i) l = east_low _ (row_low s w row i (omega arith)) (row.inside i l)

  -- Its south edges are cut if the first one is.
  pub row_south : (s w : ℕ) → IsRow mesh cut s w → cut s ≡ true → (i : ℕ) → i < w → cut (easts mesh s i) ≡ true
  row_south s w row on zero l = on
  row_south s w row on (suc i) l = grind (arith, row_low s w row i, row_south s w row on i)

  -- Its north edges are cut or not together.
  pub row_north : {s w : ℕ} → IsRow mesh cut s w → (i : ℕ) → i < w
      → cut (mesh.next (mesh.next (easts mesh s i))) ≡ cut (mesh.next (mesh.next s))
  row_north row zero l = refl
  row_north {s} {w} row (suc i) l =
      north_alike _ (row_low s w row i (omega arith)) (row.inside i l) ∙ row_north row i (omega arith)

  -- The cells over a row are a row of the same width.
  pub row_above : {s w : ℕ} → IsRow mesh cut s w → cut (mesh.next (mesh.next s)) ≡ false → (i : ℕ) → i < w
      → easts mesh (step_north mesh s) i ≡ step_north mesh (easts mesh s i)
  row_above row off zero l = refl
  row_above {s} {w} row off (suc i) l = cc (
    row_above row off i (omega arith),
    (square _ (row_low s w row i (omega arith)) (row.inside i l) (row_north row i (omega arith) ∙ off)).1,
  )

  pub next_row : (s w : ℕ) → IsRow mesh cut s w → cut (mesh.next (mesh.next s)) ≡ false
      → IsRow mesh cut (step_north mesh s) w
  next_row s w row off = record {
    wide = row.wide;
    low = north_low s row.low off;
    inside = λ i l. grind (arith, row_above row off i, square, row_low s w row i, row.inside i l, row_north row i);
    ends = λ i e. grind (arith, row_above row off i, row_low s w row i, row.ends i e, row_north row i);
  }

  pub endless : (d : ℕ) → d < mesh.count → cut (mesh.prev d) ≡ true
      → ((i : ℕ) → i ≤ mesh.count → cut (mesh.next (easts mesh d i)) ≡ false) → ⊥
  endless d l on off =
      let r = comes_back _ _ low (search (rules, twin_same, low)) in
      cc (west_off _ (low r.0 (omega arith)) (off r.0 (omega arith)))
    where
      low : (i : ℕ) → i ≤ mesh.count → easts mesh d i < mesh.count
      low zero h = l
      low (suc i) h = east_low _ (low i (omega arith)) (off i (omega arith))

  -- From each corner grows a grid: rows of one width stand over each other until a cut edge lies to the north.
  row_there : (d : ℕ) → d < mesh.count → cut (mesh.prev d) ≡ true → (w : ℕ) × IsRow mesh cut d w
  row_there d low west = elim (first_or_none (λ i. cut (mesh.next (easts mesh d i))) (suc mesh.count)) [
    | inl (k, k_low, first) ↦ (suc k, search rules)
    | inr none ↦ absurd (endless d low west (λ i l. none i (omega arith)))
  ]

  -- A column whose south edge is cut ends.
  pub endless_north : (d : ℕ) → d < mesh.count → cut d ≡ true
      → ((j : ℕ) → j ≤ mesh.count → cut (mesh.next (mesh.next (norths mesh d j))) ≡ false) → ⊥
  endless_north d l on off = endless (mesh.next d) (laws.next_low d l) (ap cut (laws.prev_next d)
      ∙ on) (λ j h. ap (λ x. cut (mesh.next x)) (sym (norths_turned mesh d j)) ∙ off j h)

  -- The rows that stand over each other are a row of the mesh turned by a quarter.
  pub grow : (d : ℕ) → IsCorner mesh cut d → (w : ℕ) × (h : ℕ) × IsGrown mesh cut d w h
  grow d corner =
      let (w, row) = row_there d corner.0 corner.2 in
      let (h, column) = row_there (mesh.next d) (laws.next_low d corner.0) (rw laws.prev_next corner.1) in
      search (rules, norths_turned)

  -- The rows of what has grown.
  pub row_at : {d w h : ℕ} → IsGrown mesh cut d w h → (j : ℕ) → j < h → IsRow mesh cut (norths mesh d j) w
  row_at g zero l = g.row
  row_at {d} {w} {h} g (suc j) l = next_row _ w (row_at g j (omega arith)) (g.inside j l)

  west_at : {d w h : ℕ} → IsGrown mesh cut d w h → cut (mesh.prev d) ≡ true → (j : ℕ) → j < h
      → cut (mesh.prev (norths mesh d j)) ≡ true
  west_at g on zero l = on
  west_at {d} {w} {h} g on (suc j) l = west_on (norths mesh d j) (row_at g j (omega arith)).low
      (west_at g on j (omega arith)) (g.inside j l)

  -- What has grown from a corner is a grid.
  pub grown_grid : (d w h : ℕ) → IsCorner mesh cut d → IsGrown mesh cut d w h → IsGrid mesh cut w h (grown mesh d)
  grown_grid d w h corner g = record {
    wide = g.wide;
    tall = g.tall;
    low = search (rules, row_low, row_at);
    east = λ i j li lj. east_twin _ (row_low _ w (row_at g j lj) i (omega arith)) ((row_at g j lj).inside i li);
    north = λ i j li lj. north_twin _ (row_low _ w (row_at g j (omega arith)) i li)
        (row_north (row_at g j (omega arith)) i li ∙ g.inside j lj)
        ∙ ap Some (sym (row_above (row_at g j (omega arith)) (g.inside j lj) i li));
    east_open = λ i j li lj. (row_at g j lj).inside i li;
    north_open = λ i j li lj. row_north (row_at g j (omega arith)) i li ∙ g.inside j lj;
    south_shut = λ i li. row_south d w g.row corner.1 i li;
    west_shut = λ j lj. west_at g corner.2 j lj;
    east_shut = λ i j e lj. (row_at g j lj).ends i e;
    north_shut = λ i j li e. row_north (row_at g j (omega arith)) i li ∙ g.ends j e;
  }

pub grid_law : GridLaw
grid_law mesh cut laws full d corner =
    let g = grow laws full d corner in
    (g.0, g.1, grown mesh d, refl, grown_grid laws full d g.0 g.1 corner g.2)
