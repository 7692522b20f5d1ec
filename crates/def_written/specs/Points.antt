-- The points of a gluing with lengths: what lies at each grid point of a patch.
use Rattle.std.specs.Prelude.{ℕ, ◌-◌, ◌<◌, cond, ◌==◌}
use Rattle.def_math.specs.Runs.{run_at}
use Rattle.def_layout.specs.declared.tmesh.SideArc.{SideArc}
use Rattle.def_layout.specs.Gluings.{Way, south, east, north, west, Gluing}
use Rattle.def_layout.specs.Lengths.{Lengths, reach, wide, high}

-- A node, an inner point of an arc, counted along the arc, or an inner point of a patch, in column i and row j.
pub data Point : Type 0 where
  node : (node : ℕ) → Point
  along : (arc k : ℕ) → Point
  inside : (patch i j : ℕ) → Point

-- A point of a gluing with these lengths.
abbrev pub IsPoint : (gluing : Gluing) (lengths : Lengths) (point : Point) → Type 0
IsPoint gluing lengths (node n) = n < gluing.nodes
IsPoint gluing lengths (along a k) = (a < gluing.arcs) × (0 < k) × (k < lengths a)
IsPoint gluing lengths (inside p i j) =
    (p < gluing.patches) × (0 < i) × (i < wide gluing lengths p) × (0 < j) × (j < high gluing lengths p)

-- The point at place k of an arc, its ends included.
abbrev pub arc_point : (gluing : Gluing) (lengths : Lengths) (arc k : ℕ) → Point
arc_point gluing lengths a k =
    cond (k == 0) (node (gluing.first a)) (cond (k == lengths a) (node (gluing.last a)) (along a k))

-- The point at a place of an arc, counted in the direction in which it is used.
abbrev pub use_point : (gluing : Gluing) (lengths : Lengths) (arc : SideArc) (offset : ℕ) → Point
use_point gluing lengths u o = arc_point gluing lengths u.arc (cond u.forward o (lengths u.arc - o))

-- Which arc of a side lies at a place of it.
abbrev pub use_over : (gluing : Gluing) (lengths : Lengths) (patch : ℕ) (side : Way) (place : ℕ) → ℕ
use_over gluing lengths p s t = run_at (reach gluing lengths p s) (gluing.many p s) t

-- How far after the beginning of that arc the place lies.
abbrev pub offset_at : (gluing : Gluing) (lengths : Lengths) (patch : ℕ) (side : Way) (place : ℕ) → ℕ
offset_at gluing lengths p s t = t - reach gluing lengths p s (use_over gluing lengths p s t)

-- The point at a place of a side.
abbrev pub side_point : (gluing : Gluing) (lengths : Lengths) (patch : ℕ) (side : Way) (place : ℕ) → Point
side_point gluing lengths p s t =
    use_point gluing lengths (gluing.use_at p s (use_over gluing lengths p s t)) (offset_at gluing lengths p s t)

-- The point at grid point (i, j) of a patch: on one of its four sides, or inside.
abbrev pub point : (gluing : Gluing) (lengths : Lengths) (patch i j : ℕ) → Point
point gluing lengths p i j =
    cond (j == 0) (side_point gluing lengths p south i)
    (cond (j == high gluing lengths p) (side_point gluing lengths p north (wide gluing lengths p - i))
    (cond (i == 0) (side_point gluing lengths p west (high gluing lengths p - j))
    (cond (i == wide gluing lengths p) (side_point gluing lengths p east j) (inside p i j))))
