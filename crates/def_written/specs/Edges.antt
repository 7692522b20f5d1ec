-- The edges of the new mesh, told apart even where their ends are the same, and where an edge is doubled.
use Rattle.std.specs.Prelude.{◌≡◌, ◌≢◌, ◌⊎◌, ℕ, ◌+◌, ◌<◌, ◌≤◌}
use Rattle.def_layout.specs.Gluings.{Gluing}
use Rattle.def_layout.specs.Lengths.{Lengths, wide, high}
use Rattle.def_written.specs.Points.{Point, arc_point, point}
use Rattle.def_written.specs.Numbers.{vertex_number}

-- A unit segment of an arc, or one inside a patch: from grid point (i, j) to the east, or to the north.
pub data Edge : Type 0 where
  on_arc : (arc k : ℕ) → Edge
  flat : (patch i j : ℕ) → Edge
  steep : (patch i j : ℕ) → Edge

-- An edge of a gluing with these lengths.
abbrev pub IsEdge : (gluing : Gluing) (lengths : Lengths) (edge : Edge) → Type 0
IsEdge gluing lengths (on_arc a k) = (a < gluing.arcs) × (k < lengths a)
IsEdge gluing lengths (flat p i j) =
    (p < gluing.patches) × (i < wide gluing lengths p) × (0 < j) × (j < high gluing lengths p)
IsEdge gluing lengths (steep p i j) =
    (p < gluing.patches) × (0 < i) × (i < wide gluing lengths p) × (j < high gluing lengths p)

-- The point where an edge begins.
abbrev pub edge_start : (gluing : Gluing) (lengths : Lengths) (edge : Edge) → Point
edge_start gluing lengths (on_arc a k) = arc_point gluing lengths a k
edge_start gluing lengths (flat p i j) = point gluing lengths p i j
edge_start gluing lengths (steep p i j) = point gluing lengths p i j

-- The point where it ends.
abbrev pub edge_end : (gluing : Gluing) (lengths : Lengths) (edge : Edge) → Point
edge_end gluing lengths (on_arc a k) = arc_point gluing lengths a (k + 1)
edge_end gluing lengths (flat p i j) = point gluing lengths p (i + 1) j
edge_end gluing lengths (steep p i j) = point gluing lengths p i (j + 1)

-- The ends of an edge are the vertices u and v.
abbrev pub HasEnds : (gluing : Gluing) (lengths : Lengths) (edge : Edge) (u v : ℕ) → Type 0
HasEnds gluing lengths e u v =
    ((vertex_number gluing lengths (edge_start gluing lengths e) ≡ u)
    × (vertex_number gluing lengths (edge_end gluing lengths e) ≡ v))
    ⊎ ((vertex_number gluing lengths (edge_start gluing lengths e) ≡ v)
    × (vertex_number gluing lengths (edge_end gluing lengths e) ≡ u))

-- An edge has both ends at u.
abbrev pub HasLoop : (gluing : Gluing) (lengths : Lengths) (u : ℕ) → Type 0
HasLoop gluing lengths u = (e : Edge) × IsEdge gluing lengths e × HasEnds gluing lengths e u u

-- Two edges have the ends u and v.
abbrev pub HasPair : (gluing : Gluing) (lengths : Lengths) (u v : ℕ) → Type 0
HasPair gluing lengths u v = (e : Edge) × (f : Edge) × IsEdge gluing lengths e × IsEdge gluing lengths f × (e ≢ f)
    × HasEnds gluing lengths e u v × HasEnds gluing lengths f u v

-- An edge is doubled at (u, v): two edges have these ends, or both ends of one are the same vertex.
abbrev pub IsDoubledAt : (gluing : Gluing) (lengths : Lengths) (u v : ℕ) → Type 0
IsDoubledAt gluing lengths u v =
    (u ≤ v) × (((u ≡ v) × HasLoop gluing lengths u) ⊎ HasPair gluing lengths u v)

-- No edge is doubled.
abbrev pub IsUndoubled : (gluing : Gluing) (lengths : Lengths) → Type 0
IsUndoubled gluing lengths = (u v : ℕ) → ¬ IsDoubledAt gluing lengths u v

-- The least pair at which an edge is doubled, by u, then v.
pub record IsFirstDoubled (gluing : Gluing) (lengths : Lengths) (u v : ℕ) : Type 0 where
  pub doubled : IsDoubledAt gluing lengths u v
  pub least : (a b : ℕ) → IsDoubledAt gluing lengths a b → (u < a) ⊎ ((u ≡ a) × (v ≤ b))
