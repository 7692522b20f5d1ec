-- The numbers of points: nodes come first, then the inner points of arcs, then those of patches, row by row.
use Rattle.std.specs.Prelude.{ℕ, ◌+◌, ◌-◌, ◌*◌}
use Rattle.def_math.specs.Counts.{count_below}
use Rattle.def_layout.specs.Gluings.{Gluing}
use Rattle.def_layout.specs.Lengths.{Lengths, wide, high}
use Rattle.def_written.specs.Points.{Point, node, along, inside}

-- How many inner points the arcs before arc a have.
abbrev pub before_arc : (lengths : Lengths) (a : ℕ) → ℕ
before_arc lengths a = count_below (λ b. lengths b - 1) a

-- How many inner points the patches before patch p have.
abbrev pub before_patch : (gluing : Gluing) (lengths : Lengths) (p : ℕ) → ℕ
before_patch gluing lengths p = count_below (λ q. (wide gluing lengths q - 1) * (high gluing lengths q - 1)) p

-- The number of a point.
abbrev pub vertex_number : (gluing : Gluing) (lengths : Lengths) (point : Point) → ℕ
vertex_number gluing lengths (node n) = n
vertex_number gluing lengths (along a k) = gluing.nodes + before_arc lengths a + (k - 1)
vertex_number gluing lengths (inside p i j) =
    gluing.nodes + before_arc lengths gluing.arcs + before_patch gluing lengths p
    + ((j - 1) * (wide gluing lengths p - 1) + (i - 1))

-- How many points there are.
abbrev pub vertices : (gluing : Gluing) (lengths : Lengths) → ℕ
vertices gluing lengths =
    gluing.nodes + before_arc lengths gluing.arcs + before_patch gluing lengths gluing.patches
