-- The points of a patch: its sides, corners included, and its inside.
use Rattle.std.proofs.Common.{rules, ◌≡◌, ℕ, ◌-◌, ◌<◌, ◌≤◌, sym, ◌∙◌, ap, inl, inr, arith, ◌≢◌, ◌⊎◌, ◌+◌, refl, suc}
use Rattle.std.proofs.{Common.zero, lemmas.Bool.cases_eq}
use Rattle.def_layout.specs.Gluings.{south, east, north, west, Gluing, Way, side_after, side_before}
use Rattle.def_layout.specs.{Lengths.Lengths, Lengths.wide, Lengths.high, Lengths.AreLengths, Lengths.size}
use Rattle.def_layout.specs.{Surfaces.HasWholeSides, Surfaces.IsSurface, Cells.CellDart, Cells.IsDart, Cells.dart}
use Rattle.def_layout.specs.{Cells.next, Cells.prev, Cells.dart_along}
use Rattle.def_written.specs.{Points.inside, Points.side_point, Points.point, NewFaces.column, NewFaces.row}
use Rattle.def_written.specs.{NewFaces.dart_start, NewFaces.dart_end, Edges.Edge, Edges.flat, Edges.steep, Edges.IsEdge}
use Rattle.{written_laws.proofs.Sides.size_some, written_laws.proofs.Sides.corner_meets}

module _ (l : Gluing) (x : Lengths) (paved : HasWholeSides l) (len : AreLengths l x) where
  pub wide_some : (p : ℕ) → p < l.patches → 0 < wide l x p
  wide_some p low = size_some l x paved len p south low

  pub high_some : (p : ℕ) → p < l.patches → 0 < high l x p
  high_some p low = size_some l x paved len p west low

module _ (l : Gluing) (x : Lengths) (laid : IsSurface l) (len : AreLengths l x) where
  pub point_north : (p i : ℕ) {j : ℕ} → p < l.patches → j ≡ high l x p
      → point l x p i j ≡ side_point l x p north (wide l x p - i)
  point_north p i {j} low e = search (rules, high_some)

  pub point_west : (p j : ℕ) → p < l.patches → j ≤ high l x p → point l x p 0 j ≡ side_point l x p west (high l x p - j)
  point_west p j low le = search (
    rules,
    cases_eq j 0,
    cases_eq j (high l x p),
    corner_meets l x laid len p west (high l x p - j),
    point_north p 0,
    corner_meets l x laid len p north (wide l x p - 0),
    len.across p,
  )

  pub point_east : (p : ℕ) {i : ℕ} (j : ℕ) → p < l.patches → i ≡ wide l x p → j ≤ high l x p
      → point l x p i j ≡ side_point l x p east j
  point_east p {i} j low wide_i le = elim (cases_eq j 0) [
    | inl e ↦ cc (corner_meets l x laid len p south i low wide_i)
    | inr some ↦ elim (cases_eq j (high l x p)) [
      | inl e ↦ point_north p i low e ∙ ap (side_point l x p north) (omega arith)
          ∙ sym (corner_meets l x laid len p east j low (omega (arith, len.upright p low)))
      | inr less ↦ search (rules, wide_some)
    ]
  ]

  pub point_inside : (p i j : ℕ) → 0 < i → i < wide l x p → 0 < j → j < high l x p → point l x p i j ≡ inside p i j
  point_inside p i j i_some i_low j_some j_low = search rules

-- The border darts of a patch, and the darts inside.

-- Where a dart begins in its patch.
abbrev pub column_of : (d : CellDart) → ℕ
column_of d = column d.i d.way

abbrev pub row_of : (d : CellDart) → ℕ
row_of d = row d.j d.way

-- Where a place of a side lies in the patch.
abbrev pub side_column : (l : Gluing) (x : Lengths) (p : ℕ) (s : Way) (t : ℕ) → ℕ
side_column l x p south t = t
side_column l x p east t = wide l x p
side_column l x p north t = wide l x p - t
side_column l x p west t = 0

abbrev pub side_row : (l : Gluing) (x : Lengths) (p : ℕ) (s : Way) (t : ℕ) → ℕ
side_row l x p south t = 0
side_row l x p east t = t
side_row l x p north t = high l x p
side_row l x p west t = high l x p - t

-- The sides of a patch go round.
pub after_before : (s : Way) → side_after (side_before s) ≡ s
after_before = elim [ south ↦ refl | east ↦ refl | north ↦ refl | west ↦ refl ]

pub before_after : (s : Way) → side_before (side_after s) ≡ s
before_after = elim [ south ↦ refl | east ↦ refl | north ↦ refl | west ↦ refl ]

pub no_turn : (s : Way) → s ≢ side_after s
no_turn = elim [ south ↦ λ e. cc | east ↦ λ e. cc | north ↦ λ e. cc | west ↦ λ e. cc ]

pub next_prev : (d : CellDart) → next (prev d) ≡ d
next_prev d = ap (dart d.patch d.i d.j) (after_before d.way)

pub prev_next : (d : CellDart) → prev (next d) ≡ d
prev_next d = ap (dart d.patch d.i d.j) (before_after d.way)

-- Darts at one place of a patch are one.
pub dart_is : (p : ℕ) (w : Way) {i j k n : ℕ} → i ≡ k → j ≡ n → dart p i j w ≡ dart p k n w
dart_is p w a b = λ t. dart p (a t) (b t) w

-- The edge along which a dart inside a patch runs, and the dart on its other side.
abbrev pub inner_edge : (p i j : ℕ) (w : Way) → Edge
inner_edge p i j south = flat p i j
inner_edge p i j east = steep p (i + 1) j
inner_edge p i j north = flat p i (j + 1)
inner_edge p i j west = steep p i j

abbrev pub over_at : (p i j : ℕ) (w : Way) → CellDart
over_at p i j south = dart p i (j - 1) north
over_at p i j east = dart p (i + 1) j west
over_at p i j north = dart p i (j + 1) south
over_at p i j west = dart p (i - 1) j east

abbrev pub over : (d : CellDart) → CellDart
over d = over_at d.patch d.i d.j d.way

-- A dart does not lie on the border.
abbrev pub IsWithin : (l : Gluing) (x : Lengths) (d : CellDart) → Type 0
IsWithin l x d = IsEdge l x (inner_edge d.patch d.i d.j d.way)

module _ {l : Gluing} {x : Lengths} (paved : HasWholeSides l) (len : AreLengths l x) where
  pub rim_is : (p : ℕ) (s : Way) (t : ℕ) → p < l.patches → t < size l x p s → IsDart l x (dart_along l x p s t)
  rim_is p s h1 h2 = search (rules, high_some, wide_some)

  pub rim_patch : (p : ℕ) (s : Way) (t : ℕ) → (dart_along l x p s t).patch ≡ p
  rim_patch p = elim [ south ↦ λ t. refl | east ↦ λ t. refl | north ↦ λ t. refl | west ↦ λ t. refl ]

  -- A border dart begins at its place of the side, and ends at the next one.
  rim_grid : (p : ℕ) (s : Way) (t : ℕ) → p < l.patches → t < size l x p s → (column_of (dart_along l x p s t) ≡
      side_column l x p s t) × (row_of (dart_along l x p s t) ≡ side_row l x p s t) × (column_of (next (dart_along l x p
      s t)) ≡ side_column l x p s (t + 1)) × (row_of (next (dart_along l x p s t)) ≡ side_row l x p s (t + 1))
  rim_grid p s h1 h2 = search (rules, wide_some, high_some)

  -- The border dart next to the last one of a side is the first one of the next side.
  pub corner_next : (p : ℕ) (s : Way) (t : ℕ) → p < l.patches → t + 1 ≡ size l x p s → next (dart_along l x p s t)
      ≡ dart_along l x p (side_after s) 0
  corner_next p s h1 h2 = search rules

  -- A grid point inside.
  pub record IsInner (p a b : ℕ) : Type 0 where
    pub a_some : 0 < a
    pub a_low : a < wide l x p
    pub b_some : 0 < b
    pub b_low : b < high l x p

  -- A dart lies inside its patch or on the border.
  pub on_rim : (p i j : ℕ) (w : Way) → IsDart l x (dart p i j w) → IsEdge l x (inner_edge p i j w)
      ⊎ ((s : Way) × (t : ℕ) × (t < size l x p s) × (dart p i j w ≡ dart_along l x p s t))
  on_rim p i zero south d = inr (south, i, d.i_low, refl)
  on_rim p i (suc j) south d = inl (search rules)
  on_rim p i j east d = elim (cases_eq (i + 1) (wide l x p)) [
    | inl z ↦ inr (east, j, omega (arith, len.upright p d.patch_low), dart_is p east (omega arith) refl)
    | inr some ↦ inl (search rules)
  ]
  on_rim p i j north d = elim (cases_eq (j + 1) (high l x p)) [
    | inl z ↦ inr (north, wide l x p - 1 - i, search (rules, len.across), search (rules, dart_is, len.across))
    | inr some ↦ inl (search rules)
  ]
  on_rim p zero j west d = inr (west, high l x p - 1 - j, omega arith, dart_is p west refl (omega arith))
  on_rim p (suc i) j west d = inl (search rules)

  -- The dart inside that ends at a place of a side, and over it the one next to the border dart before.
  pub rim_within : (p : ℕ) (s : Way) (t : ℕ) → p < l.patches → 0 < t → t < size l x p s → IsWithin l x (prev (dart_along
      l x p s t)) × (over (prev (dart_along l x p s t)) ≡ next (dart_along l x p s (t - 1)))
  rim_within p s h1 h2 h3 = search (rules, high_some, wide_some)

  -- Two darts inside in a row meet at a grid point inside.
  pub inner_at : (p i j : ℕ) (w : Way) → IsEdge l x (inner_edge p i j w) → IsEdge l x (inner_edge p i j (side_before w))
      → IsInner p (column i w) (row j w)
  inner_at p i j w h1 h2 = search rules

module _ (l : Gluing) (x : Lengths) (laid : IsSurface l) (len : AreLengths l x) where
  pub border_point : (p : ℕ) (s : Way) (t : ℕ) → p < l.patches → t ≤ size l x p s
      → point l x p (side_column l x p s t) (side_row l x p s t) ≡ side_point l x p s t
  border_point p north t low le = point_north l x laid len p _ {j = high l x p} low refl
      ∙ ap (side_point l x p north) (omega (arith, len.across p low))
  border_point p west t low le =
      point_west l x laid len p (high l x p - t) low (omega arith) ∙ ap (side_point l x p west) (omega arith)
  border_point p _ t low le = search (rules, point_east)

  pub rim_from : (p : ℕ) (s : Way) (t : ℕ) → p < l.patches → t < size l x p s
      → dart_start l x (dart_along l x p s t) ≡ side_point l x p s t
  rim_from p s t low less = search (rules, rim_grid, rim_patch, border_point)

  pub rim_to : (p : ℕ) (s : Way) (t : ℕ) → p < l.patches → t < size l x p s
      → dart_end l x (dart_along l x p s t) ≡ side_point l x p s (t + 1)
  rim_to p s t low less = let r = rim_grid laid.paved len p s t low less in search (rules, rim_patch, border_point)
