-- The numbers of points: each below the number of vertices, and no two alike.
use Rattle.std.proofs.Common.{rules, ◌≡◌, ℕ, ◌+◌, ◌-◌, ◌<◌, ap, arith, refl, sym, inl, inr}
use Rattle.{std.proofs.lemmas.Bool.cases_lt, def_math.specs.Counts.count_below}
use Rattle.def_layout.specs.{Gluings.Gluing, Lengths.Lengths, Lengths.wide, Lengths.high}
use Rattle.def_written.specs.{Points.Point, Points.node, Points.along, Points.inside, Points.IsPoint}
use Rattle.def_written.specs.{Numbers.before_arc, Numbers.vertex_number, Numbers.vertices, Edges.Edge, Edges.on_arc}
use Rattle.def_written.specs.{Edges.flat, Edges.steep, Edges.IsEdge}
use Rattle.written_laws.proofs.Spacings.{place_low, place_same, IsCell, number_inside, cell_once, run_here, cells_of}
use Rattle.written_laws.proofs.Spacings.{number_of, some_cell, IsInRun}
pub use Rattle.written_laws.proofs.Spacings.{in_rows}

module _ (l : Gluing) (x : Lengths) where
  -- The inner points of patches in rows.
  abbrev pub inner_wide : (p : ℕ) → ℕ
  inner_wide p = wide l x p - 1

  abbrev pub inner_high : (p : ℕ) → ℕ
  inner_high p = high l x p - 1

  inner_cell : (p i j : ℕ) → IsPoint l x (inside p i j) → IsCell inner_wide inner_high l.patches p (i - 1) (j - 1)
  inner_cell p i j is = record { low = is.0; column = omega (arith, is.1, is.2); row = omega (arith, is.3, is.4) }

  along_low : (a k : ℕ) → IsPoint l x (along a k) → before_arc x a + (k - 1) < before_arc x l.arcs
  along_low a k is = place_low (λ b. x b - 1) l.arcs a (k - 1) is.0 (omega arith)

  pub number_low : (a : Point) → IsPoint l x a → vertex_number l x a < vertices l x
  number_low (inside p i j) is = omega (arith, number_inside inner_wide inner_high l.patches (inner_cell p i j is))
  number_low _ is = search (rules, along_low)

  pub number_same : (a b : Point) → IsPoint l x a → IsPoint l x b → vertex_number l x a ≡ vertex_number l x b → a ≡ b
  number_same (node m) (node n) is_a is_b e = ap node e
  number_same (along a k) (along b j) is_a is_b e =
      let s = place_same (λ c. x c - 1) _ a (k - 1) b (j - 1) is_a.0 is_b.0 (omega arith) (omega arith) (omega arith) in
      search rules
  number_same (inside p i j) (inside q a b) is_a is_b e =
      let s = cell_once _ _ _ (inner_cell p i j is_a) (inner_cell q a b is_b) (omega arith) in
      search rules
  number_same _ _ is_a is_b e = search (rules, along_low)

-- The edges of the new mesh are numbered as its points are: those of the arcs, then those inside patches.

module _ (l : Gluing) (x : Lengths) where
  -- How many edges of each kind a patch has.
  abbrev pub flats : (p : ℕ) → ℕ
  flats = cells_of (wide l x) (inner_high l x) l.patches

  abbrev pub steeps : (p : ℕ) → ℕ
  steeps = cells_of (inner_wide l x) (high l x) l.patches

  -- The number of an edge.
  abbrev pub edge_number : (e : Edge) → ℕ
  edge_number (on_arc a k) = count_below x a + k
  edge_number (flat p i j) = count_below x l.arcs + number_of (wide l x) (inner_high l x) l.patches p i (j - 1)
  edge_number (steep p i j) = count_below x l.arcs + count_below flats l.patches
      + number_of (inner_wide l x) (high l x) l.patches p (i - 1) j

  -- How many edges there are.
  abbrev pub edge_total : ℕ
  edge_total = count_below x l.arcs + count_below flats l.patches + count_below steeps l.patches

  flat_cell : (p i j : ℕ) → IsEdge l x (flat p i j) → IsCell (wide l x) (inner_high l x) l.patches p i (j - 1)
  flat_cell p i j is = record { low = is.0; column = is.1; row = omega (arith, is.2, is.3) }

  steep_cell : (p i j : ℕ) → IsEdge l x (steep p i j) → IsCell (inner_wide l x) (high l x) l.patches p (i - 1) j
  steep_cell p i j is = record { low = is.0; column = omega (arith, is.1, is.2); row = is.3 }

  pub edge_low : (e : Edge) → IsEdge l x e → edge_number e < edge_total
  edge_low (on_arc a k) is = omega (arith, place_low x l.arcs a k is.0 is.1)
  edge_low (flat p i j) is = omega (arith, number_inside _ _ _ (flat_cell p i j is))
  edge_low (steep p i j) is = omega (arith, number_inside _ _ _ (steep_cell p i j is))

  pub edge_same : (e f : Edge) → IsEdge l x e → IsEdge l x f → edge_number e ≡ edge_number f → e ≡ f
  edge_same (on_arc a k) (on_arc b m) is_e is_f same =
      let s = place_same x _ a k b m is_e.0 is_f.0 is_e.1 is_f.1 same in
      λ t. on_arc (s.0 t) (s.1 t)
  edge_same (flat p i j) (flat q c d) is_e is_f same =
      let s = cell_once _ _ _ (flat_cell p i j is_e) (flat_cell q c d is_f) (omega arith) in
      search rules
  edge_same (steep p i j) (steep q c d) is_e is_f same =
      let s = cell_once _ _ _ (steep_cell p i j is_e) (steep_cell q c d is_f) (omega arith) in
      search rules
  edge_same (flat p i j) (steep q c d) is_e is_f e = absurd (omega (arith, number_inside _ _ _ (flat_cell p i j is_e)))
  edge_same (steep p i j) (flat q c d) is_e is_f e = absurd (omega (arith, number_inside _ _ _ (flat_cell q c d is_f)))
  edge_same e (on_arc b m) is_e is_f same = absurd (omega (arith, place_low x l.arcs b m is_f.0 is_f.1))
  edge_same (on_arc a k) _ is_e is_f same = absurd (omega (arith, place_low x l.arcs a k is_e.0 is_e.1))

  -- Each number below the total is that of an edge.
  pub edge_onto : (n : ℕ) → n < edge_total → (e : Edge) × IsEdge l x e × (edge_number e ≡ n)
  edge_onto n low = elim (cases_lt n (count_below x l.arcs)) [
    | inl less ↦ let h = run_here x _ n less in (on_arc _ _, (h.low, h.inside), sym h.place)
    | inr more ↦ elim (cases_lt n (count_below x l.arcs + count_below flats l.patches)) [
      | inl less ↦
          let (p, i, j, c, place) = some_cell (wide l x) (inner_high l x) l.patches (n - count_below x l.arcs)
          (omega arith) in
          (flat p i (j + 1), search rules, search rules)
      | inr most ↦
          let (p, i, j, c, place) = some_cell (inner_wide l x) (high l x) l.patches
          (n - (count_below x l.arcs + count_below flats l.patches)) (omega arith) in
          (steep p (i + 1) j, search rules, search rules)
    ]
  ]

  -- Each number below that of the vertices is that of a point.
  pub point_onto : (n : ℕ) → n < vertices l x → (a : Point) × IsPoint l x a × (vertex_number l x a ≡ n)
  point_onto n low = elim (cases_lt n l.nodes) [
    | inl less ↦ (node n, less, refl)
    | inr more ↦ elim (cases_lt n (l.nodes + before_arc x l.arcs)) [
      | inl less ↦
          let h : (a : ℕ) × (o : ℕ) × IsInRun (λ b. x b - 1) l.arcs (n - l.nodes) a o =
          (_, _, run_here _ _ (n - l.nodes) (omega arith)) in (along h.0 (h.1 + 1), search rules, search rules)
      | inr most ↦
          let (p, i, j, c, place) = some_cell (inner_wide l x) (inner_high l x) l.patches
          (n - (l.nodes + before_arc x l.arcs)) (omega arith) in
          (inside p (i + 1) (j + 1), search rules, search rules)
    ]
  ]
