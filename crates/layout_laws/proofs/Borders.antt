-- The borders of patches: each side is a straight line of cut darts from node to node, and each cut dart lies on a
-- side.
use Rattle.std.proofs.Common.{rules, ◌≡◌, ℕ, zero, suc, ◌+◌, ◌-◌, ◌<◌, ◌≤◌, Bool, true, false, List, Some, sym, ◌∙◌, ap}
use Rattle.std.proofs.Common.{inl, inr, true≢false, arith}
use Rattle.std.proofs.lemmas.Bool.{cases_Bool, cases_eq, cases_lt, false≢true}
use Rattle.def_mesh.specs.HalfEdges.{HalfEdges, IsQuadManifold}
use Rattle.def_cut.specs.{Grids.IsGrid, Grids.Rectangle, Grids.cell_of, Grids.patch_at, Grids.IsPartition, Cuts.Cut}
use Rattle.def_cut.specs.{Cuts.IsCut, Steps.spin, Steps.easts, Steps.step_east as go}
use Rattle.def_layout.specs.{Gluings.Way, Gluings.south, Gluings.east, Gluings.north, Gluings.west, Arcs.end_vertex}
use Rattle.def_layout.specs.{Arcs.IsRun, Borders.side_size, Borders.border_dart, Nodes.AreNodes}
use Rattle.cut_laws.proofs.Folds.{prev_three, prev_twice, west_open, south_open, west as west_link, south as south_link}
use Rattle.layout_laws.proofs.Runs.{walk_done}

-- A line of L cut darts, each straight on from the one before, from a corner to a corner.
pub record IsLine (mesh : HalfEdges) (cut : Cut) (b : ℕ → ℕ) (size : ℕ) : Type 0 where
  pub some : 0 < size
  pub low : (t : ℕ) → t < size → b t < mesh.count
  pub on : (t : ℕ) → t < size → cut (b t) ≡ true
  pub next : (t : ℕ) → suc t < size → b (suc t) ≡ go mesh (b t)
  pub over : (t : ℕ) → suc t < size → mesh.twin (mesh.next (b t)) ≡ Some (mesh.prev (b (suc t)))
  pub first : cut (mesh.prev (b 0)) ≡ true
  pub last : (t : ℕ) → suc t ≡ size → cut (mesh.next (b t)) ≡ true

-- A run that begins on a line and stays on it.
pub record RunsOn (mesh : HalfEdges) (cut : Cut) (node : ℕ → Bool) (b : ℕ → ℕ) (size u n : ℕ) : Type 0 where
  pub run : IsRun mesh cut node (b u) n
  pub fits : u + n ≤ size

module _ (mesh : HalfEdges) (laws : IsQuadManifold mesh) (cut : Cut) (full : IsCut mesh cut) where
  -- The next dart of a line.
  from_over : (d e : ℕ) → mesh.twin (mesh.next d) ≡ Some (mesh.prev e) → e ≡ go mesh d
  from_over d e is = cc (laws.next_prev e)

  module _ (p : Rectangle) (grid : IsGrid mesh cut p.w p.h (cell_of p)) where
    over : (s : Way) (t : ℕ) → suc t < side_size p s
        → mesh.twin (mesh.next (border_dart mesh p s t)) ≡ Some (mesh.prev (border_dart mesh p s (suc t)))
    over south t l = grid.east t 0 l grid.tall
    over east t l = cc (grid.north (p.w - 1) t (omega (arith, grid.wide)) l, laws.prev_next (cell_of p _ _))
    over north t l =
        let e : p.w - 1 - t ≡ suc (p.w - 1 - suc t) = omega arith in
        cc (
          west_link laws full grid (p.w - 1 - suc t) (p.h - 1) (omega arith) (omega arith),
          prev_three laws _,
          laws.prev_next (mesh.next (cell_of p _ _)),
        )
    over west t l =
        let e : p.h - 1 - t ≡ suc (p.h - 1 - suc t) = omega arith in
        cc (
          south_link laws full grid 0 (p.h - 1 - suc t) grid.wide (omega arith),
          laws.next_prev (cell_of p 0 _),
          prev_twice laws _,
        )

    -- Each side is a line.
    pub line : (side : Way) → IsLine mesh cut (border_dart mesh p side) (side_size p side)
    line south = record {
      some = grid.wide;
      low = λ t l. grid.low t 0 l grid.tall;
      on = λ t l. grid.south_shut t l;
      next = λ t l. from_over _ _ (over south t l);
      over = over south;
      first = grid.west_shut 0 grid.tall;
      last = λ t e. grid.east_shut t 0 e grid.tall;
    }
    line east = search rules
    line north = record {
      some = grid.wide;
      low = search rules;
      on = search rules;
      next = search (rules, from_over, over);
      over = over north;
      first = search rules;
      last = λ t e. let zero_is : p.w - 1 - t ≡ 0 = omega arith in
          ap (λ x. cut (mesh.next (mesh.next (mesh.next (cell_of p x (p.h - 1)))))) zero_is
          ∙ (ap cut (sym (prev_three laws (cell_of p 0 (p.h - 1)))) ∙ grid.west_shut (p.h - 1) (omega arith));
    }
    line west = record {
      some = grid.tall;
      low = search rules;
      on = λ t l. grid.west_shut (p.h - 1 - t) (omega arith);
      next = search (rules, from_over, over);
      over = over west;
      first = search (rules, prev_twice);
      last = search rules;
    }

    -- A cut side of a cell lies on a side of the patch.
    pub on_side : (k i j d : ℕ) → i < p.w → j < p.h → d ≡ spin mesh k (cell_of p i j) → cut d ≡ true → (side : Way)
        × (t : ℕ) × (t < side_size p side) × (border_dart mesh p side t ≡ d)
    on_side zero i zero d li lj e on = (south, i, li, sym e)
    on_side zero i (suc j) d li lj e on = absurd (cc (south_open laws full grid i j li lj))
    on_side (suc zero) i j d li lj e on = elim (cases_eq (suc i) p.w) [
      | inl z ↦ let same : p.w - 1 ≡ i = omega arith in (east, j, lj, cc)
      | inr ne ↦ absurd (cc (grid.east_open i j (omega arith) lj))
    ]
    on_side (suc (suc zero)) i j d li lj e on = elim (cases_eq (suc j) p.h) [
      | inl z ↦ let row : p.h - 1 ≡ j = omega arith in let column : p.w - 1 - (p.w - 1 - i) ≡ i = omega arith in
          search rules
      | inr ne ↦ absurd (true≢false (sym on ∙ (ap cut e ∙ grid.north_open i j li (omega arith))))
    ]
    on_side (suc (suc (suc zero))) zero j d li lj e on = let row : p.h - 1 - (p.h - 1 - j) ≡ j = omega arith in (
      west,
      p.h - 1 - j,
      omega arith,
      ap (λ x. mesh.prev (cell_of p 0 x)) row ∙ (prev_three laws _ ∙ sym e),
    )
    on_side (suc (suc (suc zero))) (suc i) j d li lj e on
        = absurd (true≢false (sym on ∙ (ap cut (e ∙ sym (prev_three laws _)) ∙ west_open laws full grid i j li lj)))
    on_side (suc (suc (suc (suc k)))) i j d li lj e on =
        on_side k i j d li lj (e ∙ laws.four_sides (spin mesh k (cell_of p i j))) on

  module _ (node : ℕ → Bool) (nodes : AreNodes mesh cut node) (b : ℕ → ℕ) (size : ℕ)
      (line : IsLine mesh cut b size) where
    pub line_easts : (u k : ℕ) → u + k < size → easts mesh (b u) k ≡ b (u + k)
    line_easts u zero l = ap b (omega arith)
    line_easts u (suc k) l = let n : suc (u + k) ≡ u + suc k = omega arith in
        cc (line_easts u k (omega arith), line.next (u + k) (omega arith))

    pub line_from : (t : ℕ) → suc t < size → mesh.from (b (suc t)) ≡ end_vertex mesh (b t)
    line_from t l = cc (
      laws.next_prev (b (suc t)),
      (laws.twin_ends (mesh.next (b t)) (mesh.prev (b (suc t)))
          (laws.next_low (b t) (line.low t (omega arith))) (line.over t l)).1,
    )

    pub line_begins : node (mesh.from (b 0)) ≡ true
    line_begins = nodes.corner (b 0) (line.low 0 line.some) (line.on 0 line.some) line.first

    pub line_ends : (t : ℕ) → suc t ≡ size → node (end_vertex mesh (b t)) ≡ true
    line_ends t e = search rules

    -- From each node on the line runs a run, which stays on it.
    pub runs_from : (u : ℕ) → u < size → node (mesh.from (b u)) ≡ true → (n : ℕ) × RunsOn mesh cut node b size u n
    runs_from u l begins = search (size - suc u) 0 (omega arith) (λ k h. absurd (omega arith))
      where
        done : (k : ℕ) → u + k < size → ((i : ℕ) → i < k → node (end_vertex mesh (easts mesh (b u) i)) ≡ false)
            → node (end_vertex mesh (easts mesh (b u) k)) ≡ true → (n : ℕ) × RunsOn mesh cut node b size u n
        done k h before on = search (rules, walk_done)

        search : (left k : ℕ) → u + k + suc left ≡ size → ((i : ℕ) → i < k → node (end_vertex mesh (easts mesh (b u) i))
            ≡ false) → (n : ℕ) × RunsOn mesh cut node b size u n
        search zero k sum before =
            done k (omega arith) before (cc (line_easts u k (omega arith), line_ends (u + k) (omega arith)))
        search (suc left) k sum before = elim (cases_Bool (node (end_vertex mesh (easts mesh (b u) k)))) [
          | inl on ↦ done k (omega arith) before on
          | inr off ↦ search left (suc k) (omega arith) (λ i h. elim (cases_eq i k) [
            | inl e ↦ cc
            | inr ne ↦ before i (omega arith)
          ])
        ]

    -- Each dart of the line lies on such a run.
    pub runs_over : (t : ℕ) → t < size → (u : ℕ) × (n : ℕ) × RunsOn mesh cut node b size u n × (u ≤ t) × (t < u + n)
    runs_over zero l = search (rules, runs_from, line_begins)
    runs_over (suc t) l =
        let (u, n, on, low, high) = runs_over t (omega arith) in
        elim (cases_eq (suc t) (u + n)) [
          | inr ne ↦ (u, n, on, omega arith, omega arith)
          | inl e ↦
              let here : easts mesh (b u) (t - u) ≡ b t = line_easts u (t - u) (omega arith) ∙ ap b (omega arith) in
              let begins = ap node (line_from t l) ∙ (search rules) in
              let r = runs_from (suc t) l begins in
              (suc t, r.0, r.1, omega arith, omega arith)
        ]

    -- A run that begins on the line ends on it.
    pub run_fits : (t n : ℕ) → t < size → IsRun mesh cut node (b t) n → t + n ≤ size
    run_fits t n l run = elim (cases_lt size (t + n)) [
      | inl far ↦ absurd (false≢true (sym (run.inside (size - suc t) (omega arith))
          ∙ (ap (λ x. node (end_vertex mesh x)) (line_easts t _ (omega arith)) ∙ line_ends _ (omega arith))))
      | inr h ↦ h
    ]

    -- Where it ends another begins, or the line ends.
    pub next_begins : (t n : ℕ) → t < size → IsRun mesh cut node (b t) n → t + n < size → node (mesh.from (b (t + n)))
        ≡ true
    next_begins t n l run far = at (n - 1) (omega arith)
      where
        at : (k : ℕ) → suc k ≡ n → node (mesh.from (b (t + n))) ≡ true
        at k e =
            let place : t + n ≡ suc (t + k) = omega arith in
            cc (line_from (t + k) (omega arith), line_easts t k (omega arith), run.ends k e)

  -- Each cut dart lies on a run.
  pub each_in_run : (node : ℕ → Bool) → AreNodes mesh cut node → (face : ℕ → ℕ) (ps : List Rectangle)
      → IsPartition mesh cut face ps → (d : ℕ) → d < mesh.count → cut d ≡ true → (s : ℕ) × (n : ℕ) × (k : ℕ)
      × IsRun mesh cut node s n × (k < n) × (easts mesh s k ≡ d)
  each_in_run node nodes face ps parts d l on =
      let (p, i, j, k, p_low, side) = parts.covers d l in
      let q = patch_at ps p in
      let grid = (parts.patch p p_low).grid in
      let (s, t, lt, e) = on_side q grid k i j d side.i_low side.j_low side.is on in
      let (u, n, r, low, high) = runs_over node nodes (border_dart mesh q s) (side_size q s) (line q grid s) t lt in (
        border_dart mesh q s u,
        n,
        t - u,
        r.run,
        omega arith,
        line_easts node nodes _ _ (line q grid s) u _ (omega arith) ∙ (ap (border_dart mesh q s) (omega arith) ∙ e),
      )
