-- Where the new points lie: one coordinate of each, in whole millionths, from that of the old points. Division rounds
-- down. Parameters along sides are counted in parts of 1 / ONE of an old edge.
use Rattle.std.specs.Prelude.{ℕ, ◌+◌, ◌-◌, ◌*◌, ◌/◌, ◌%◌, ◌^◌, min, Bool, not, ℤ, pos, ◌+ℤ◌, ◌-ℤ◌, ◌*ℤ◌}
use Rattle.std.specs.Int.{int_div_euclid}
use Rattle.def_layout.specs.Gluings.{Way, south, east, north, west, Gluing}
use Rattle.def_layout.specs.Lengths.{Lengths, reach, size, wide, high}
use Rattle.def_written.specs.Points.{Point, node, along, inside, arc_point, use_over, offset_at, point}

-- One coordinate of each point of a gluing at the old lengths.
abbrev pub Coordinate : Type 0
Coordinate = Point → ℤ

-- So many of the equal parts of the way from p to q, rounded, halves up.
abbrev pub on_the_way : (p q : ℤ) (some parts : ℕ) → ℤ
on_the_way p q r x = p +ℤ int_div_euclid ((pos (2 * r) *ℤ (q -ℤ p)) +ℤ pos x) (pos (2 * x))

-- How far along an arc a point lies: behind so many whole old edges, and so many equal parts of the next one.
pub record Step : Type 0 where
  pub edge : ℕ
  pub some : ℕ
  pub parts : ℕ

-- One old edge, as a parameter.
abbrev pub ONE : ℕ
ONE = 2 ^ 32

-- Where the new points of arcs lie: place k of an arc as a step along it, and the parameter of place k, counted from
-- its beginning, forward, or from its end.
pub record ArcSpacing : Type 0 where
  pub step : (arc k : ℕ) → Step
  pub parameter_of : (arc : ℕ) (forward : Bool) (k : ℕ) → ℕ

-- At equal parts of the old length.
abbrev pub even : (old new : Lengths) → ArcSpacing
even old new = record {
  step = λ a k. record { edge = k * old a / new a; some = k * old a % new a; parts = new a };
  parameter_of = λ a forward k. ONE * k * old a / new a;
}

-- Place k of an arc, between the old points before and after it.
abbrev pub arc_place : (gluing : Gluing) (old : Lengths) (spacing : ArcSpacing) (at : Coordinate) (arc k : ℕ) → ℤ
arc_place gluing old spacing at a k =
    let step = spacing.step a k in
    on_the_way (at (arc_point gluing old a step.edge)) (at (arc_point gluing old a (step.edge + 1))) step.some
    step.parts

-- The parameter of a place of a side, counted along the side.
abbrev pub parameter :
    (gluing : Gluing) (old new : Lengths) (spacing : ArcSpacing) (patch : ℕ) (side : Way) (place : ℕ) → ℕ
parameter gluing old new spacing p s t =
    let m = use_over gluing new p s t in
    let used = gluing.use_at p s m in
    ONE * reach gluing old p s m + spacing.parameter_of used.arc used.forward (offset_at gluing new p s t)

-- The parameter of a place of a side, counted from the end of the side, also within its arc.
abbrev pub parameter_back :
    (gluing : Gluing) (old new : Lengths) (spacing : ArcSpacing) (patch : ℕ) (side : Way) (place : ℕ) → ℕ
parameter_back gluing old new spacing p s t =
    let m = use_over gluing new p s t in
    let used = gluing.use_at p s m in
    ONE * (size gluing old p s - reach gluing old p s (m + 1))
    + spacing.parameter_of used.arc (not used.forward) (new used.arc - offset_at gluing new p s t)

-- The parameter of grid point (i, j) from west to east: between those of the south and the north side.
abbrev pub parameter_u : (gluing : Gluing) (old new : Lengths) (spacing : ArcSpacing) (patch i j : ℕ) → ℕ
parameter_u gluing old new spacing p i j =
    let w = wide gluing new p in
    let h = high gluing new p in
    (parameter gluing old new spacing p south i * (h - j)
    + parameter_back gluing old new spacing p north (w - i) * j) / h

-- The parameter from south to north: between those of the west and the east side.
abbrev pub parameter_v : (gluing : Gluing) (old new : Lengths) (spacing : ArcSpacing) (patch i j : ℕ) → ℕ
parameter_v gluing old new spacing p i j =
    let w = wide gluing new p in
    let h = high gluing new p in
    (parameter_back gluing old new spacing p west (h - j) * (w - i)
    + parameter gluing old new spacing p east j * i) / w

-- The old column or row in which a parameter lies, of so many.
abbrev pub cell_at : (cells parameter : ℕ) → ℕ
cell_at n u = min (u / ONE) (n - 1)

-- How far after its beginning it lies.
abbrev pub rest_at : (cells parameter : ℕ) → ℕ
rest_at n u = u - cell_at n u * ONE

-- The mean of the four corners of a cell at (s, t), weighed in both directions and rounded, halves up.
abbrev pub blend : (s t : ℕ) (p00 p10 p01 p11 : ℤ) → ℤ
blend s t p00 p10 p01 p11 = int_div_euclid
    ((((pos ((ONE - s) * (ONE - t)) *ℤ p00) +ℤ (pos (s * (ONE - t)) *ℤ p10))
    +ℤ ((pos ((ONE - s) * t) *ℤ p01) +ℤ (pos (s * t) *ℤ p11)))
    +ℤ pos (2 ^ 63))
    (pos (2 ^ 64))

-- Grid point (i, j) of a patch, in the old cell where its parameters lie.
abbrev pub inside_place : (gluing : Gluing) (old new : Lengths) (spacing : ArcSpacing) (at : Coordinate) (patch i j : ℕ)
    → ℤ
inside_place gluing old new spacing at p i j =
    let u = parameter_u gluing old new spacing p i j in
    let v = parameter_v gluing old new spacing p i j in
    let a = cell_at (wide gluing old p) u in
    let b = cell_at (high gluing old p) v in
    blend (rest_at (wide gluing old p) u) (rest_at (high gluing old p) v)
    (at (point gluing old p a b)) (at (point gluing old p (a + 1) b))
    (at (point gluing old p a (b + 1))) (at (point gluing old p (a + 1) (b + 1)))

-- The place of a new point. A node keeps its own.
abbrev pub place_of : (gluing : Gluing) (old new : Lengths) (spacing : ArcSpacing) (at : Coordinate) (point : Point) → ℤ
place_of gluing old new spacing at (node n) = at (node n)
place_of gluing old new spacing at (along a k) = arc_place gluing old spacing at a k
place_of gluing old new spacing at (inside p i j) = inside_place gluing old new spacing at p i j
