-- The definitions of the new mesh, computed on layouts with known answers.
use Rattle.std.proofs.Common.{◌≡◌, ℕ, true, false, List, [], ◌∷◌, length, map, pos, negsuc, cond, nat_lt, refl, inl}
use Rattle.std.proofs.Common.{inr, arith}
use Rattle.std.specs.Prelude.{slice_index_or, ◌-◌, ◌*◌, ◌/◌, ◌==◌, ◌||◌}
use Rattle.def_layout.specs.{declared.tmesh.SideArc.SideArc, Gluings.Way, Gluings.south, Gluings.east, Gluings.north}
use Rattle.def_layout.specs.{Gluings.west, Gluings.Gluing, Lengths.Lengths}
use Rattle.def_written.specs.{Points.node, Points.along, Points.inside, Numbers.vertices, NewFaces.new_faces}
use Rattle.def_written.specs.{Edges.on_arc, Edges.IsDoubledAt, Places.Coordinate, Places.even, Places.ONE}
use Rattle.def_written.specs.{Places.parameter, Places.parameter_back, Places.place_of, Places.Step, Spacings.shared}
use Rattle.def_written.specs.Spacings.{shared_step, Shares}

abbrev turn : (side : Way) → ℕ
turn south = 0
turn east = 1
turn north = 2
turn west = 3

abbrev ahead : (arc : ℕ) → SideArc
ahead a = record { arc = a; forward = true }

abbrev back : (arc : ℕ) → SideArc
back a = record { arc = a; forward = false }

abbrev side_of : (sides : List (List (List SideArc))) (patch : ℕ) (side : Way) → List SideArc
side_of sides p s = slice_index_or (slice_index_or sides p []) (turn s) []

-- The layout with so many nodes, arcs between these nodes, and these sides.
abbrev table : (nodes : ℕ) (firsts lasts : List ℕ) (sides : List (List (List SideArc))) → Gluing
table nodes firsts lasts sides = record {
  nodes = nodes;
  arcs = length firsts;
  patches = length sides;
  first = λ a. slice_index_or firsts a 0;
  last = λ a. slice_index_or lasts a 0;
  many = λ p s. length (side_of sides p s);
  use_at = λ p s k. slice_index_or (side_of sides p s) k (ahead 0);
}

abbrev lengths : (numbers : List ℕ) → Lengths
lengths xs a = slice_index_or xs a 0

-- A quad, cut in four.
abbrev quad : Gluing
quad = table 4 (0 ∷ 1 ∷ 2 ∷ 3 ∷ []) (1 ∷ 2 ∷ 3 ∷ 0 ∷ [])
    (((ahead 0 ∷ []) ∷ (ahead 1 ∷ []) ∷ (ahead 2 ∷ []) ∷ (ahead 3 ∷ []) ∷ []) ∷ [])

quad_vertices : vertices quad (lengths (2 ∷ 2 ∷ 2 ∷ 2 ∷ [])) ≡ 9
quad_vertices = refl

quad_faces : new_faces quad (lengths (2 ∷ 2 ∷ 2 ∷ 2 ∷ [])) ≡
    (0 ∷ 4 ∷ 8 ∷ 7 ∷ []) ∷ (4 ∷ 1 ∷ 5 ∷ 8 ∷ []) ∷ (7 ∷ 8 ∷ 6 ∷ 3 ∷ []) ∷ (8 ∷ 5 ∷ 2 ∷ 6 ∷ []) ∷ []
quad_faces = refl

-- The stepped cylinder.
abbrev cylinder : Gluing
cylinder = table 6 (0 ∷ 2 ∷ 1 ∷ 1 ∷ 3 ∷ 2 ∷ 4 ∷ 3 ∷ 5 ∷ []) (1 ∷ 0 ∷ 3 ∷ 0 ∷ 2 ∷ 3 ∷ 2 ∷ 5 ∷ 4 ∷ [])
    (((ahead 0 ∷ []) ∷ (ahead 2 ∷ []) ∷ (ahead 4 ∷ []) ∷ (ahead 1 ∷ []) ∷ [])
    ∷ ((ahead 3 ∷ []) ∷ (back 1 ∷ []) ∷ (ahead 5 ∷ []) ∷ (back 2 ∷ []) ∷ [])
    ∷ ((back 4 ∷ []) ∷ (ahead 7 ∷ []) ∷ (ahead 8 ∷ []) ∷ (ahead 6 ∷ []) ∷ []) ∷ [])

cylinder_vertices : vertices cylinder (lengths (1 ∷ 1 ∷ 1 ∷ 1 ∷ 1 ∷ 1 ∷ 1 ∷ 1 ∷ 1 ∷ [])) ≡ 6
cylinder_vertices = refl

cylinder_faces : new_faces cylinder (lengths (1 ∷ 1 ∷ 1 ∷ 1 ∷ 1 ∷ 1 ∷ 1 ∷ 1 ∷ 1 ∷ [])) ≡
    (0 ∷ 1 ∷ 3 ∷ 2 ∷ []) ∷ (1 ∷ 0 ∷ 2 ∷ 3 ∷ []) ∷ (2 ∷ 3 ∷ 5 ∷ 4 ∷ []) ∷ []
cylinder_faces = refl

-- A torus with one node.
abbrev torus : Gluing
torus = table 1 (0 ∷ 0 ∷ []) (0 ∷ 0 ∷ [])
    (((ahead 0 ∷ []) ∷ (back 1 ∷ []) ∷ (back 0 ∷ []) ∷ (ahead 1 ∷ []) ∷ []) ∷ [])

torus_vertices : vertices torus (lengths (3 ∷ 2 ∷ [])) ≡ 6
torus_vertices = refl

torus_faces : new_faces torus (lengths (3 ∷ 2 ∷ [])) ≡ (0 ∷ 1 ∷ 4 ∷ 3 ∷ []) ∷ (1 ∷ 2 ∷ 5 ∷ 4 ∷ [])
    ∷ (2 ∷ 0 ∷ 3 ∷ 5 ∷ []) ∷ (3 ∷ 4 ∷ 1 ∷ 0 ∷ []) ∷ (4 ∷ 5 ∷ 2 ∷ 1 ∷ []) ∷ (5 ∷ 3 ∷ 0 ∷ 2 ∷ []) ∷ []
torus_faces = refl

-- The pillow after one of its arcs is taken away: two sides use an arc in both directions.
abbrev pillow : Gluing
pillow = table 4 (2 ∷ 1 ∷ 3 ∷ []) (0 ∷ 3 ∷ 2 ∷ [])
    (((ahead 0 ∷ back 0 ∷ []) ∷ (back 2 ∷ []) ∷ (back 1 ∷ ahead 1 ∷ []) ∷ (ahead 2 ∷ []) ∷ []) ∷ [])

pillow_vertices : vertices pillow (lengths (2 ∷ 2 ∷ 3 ∷ [])) ≡ 14
pillow_vertices = refl

pillow_faces : new_faces pillow (lengths (2 ∷ 2 ∷ 3 ∷ [])) ≡
    (2 ∷ 4 ∷ 8 ∷ 7 ∷ []) ∷ (4 ∷ 0 ∷ 9 ∷ 8 ∷ []) ∷ (0 ∷ 4 ∷ 10 ∷ 9 ∷ []) ∷ (4 ∷ 2 ∷ 7 ∷ 10 ∷ []) ∷
    (7 ∷ 8 ∷ 11 ∷ 6 ∷ []) ∷ (8 ∷ 9 ∷ 12 ∷ 11 ∷ []) ∷ (9 ∷ 10 ∷ 13 ∷ 12 ∷ []) ∷ (10 ∷ 7 ∷ 6 ∷ 13 ∷ []) ∷
    (6 ∷ 11 ∷ 5 ∷ 3 ∷ []) ∷ (11 ∷ 12 ∷ 1 ∷ 5 ∷ []) ∷ (12 ∷ 13 ∷ 5 ∷ 1 ∷ []) ∷ (13 ∷ 6 ∷ 3 ∷ 5 ∷ []) ∷ []
pillow_faces = refl

-- With all lengths 1, two edges of the stepped cylinder join its first two nodes.
cylinder_doubled : IsDoubledAt cylinder (lengths (1 ∷ 1 ∷ 1 ∷ 1 ∷ 1 ∷ 1 ∷ 1 ∷ 1 ∷ 1 ∷ [])) 0 1
cylinder_doubled = (
  omega arith,
  inr (
    on_arc 0 0,
    on_arc 3 0,
    (omega arith, omega arith),
    (omega arith, omega arith),
    (λ e. cc),
    inl (refl, refl),
    inr (refl, refl),
  ),
)

-- The first coordinates of a square's corners.
abbrev square_x : Coordinate
square_x (node n) = cond (n == 1 || n == 2) (pos 2000000) (pos 0)
square_x (along a k) = pos 0
square_x (inside p i j) = pos 0

abbrev ones : Lengths
ones = lengths (1 ∷ 1 ∷ 1 ∷ 1 ∷ [])

abbrev threes : Lengths
threes = lengths (3 ∷ 2 ∷ 3 ∷ 2 ∷ [])

square_places : map (place_of quad ones threes (even ones threes) square_x) (node 0 ∷ node 1 ∷ node 2 ∷ node 3 ∷ along 0
    1 ∷ along 0 2 ∷ along 1 1 ∷ along 2 1 ∷ along 2 2 ∷ along 3 1 ∷ inside 0 1 1 ∷ inside 0 2 1 ∷ []) ≡ pos 0 ∷ pos
    2000000 ∷ pos 2000000 ∷ pos 0 ∷ pos 666667 ∷ pos 1333333 ∷ pos 2000000 ∷ pos 1333333 ∷ pos 666667 ∷ pos 0 ∷ pos
    666667 ∷ pos 1333333 ∷ []
square_places = refl

-- The height of the pillow's points: its upper cells come first, its lower ones last.
abbrev pillow_z : Coordinate
pillow_z (node n) = pos 0
pillow_z (along a k) = pos 0
pillow_z (inside p i j) = cond (nat_lt i 3) (pos 1000000) (cond (nat_lt 3 i) (negsuc 999999) (pos 0))

abbrev old : Lengths
old = lengths (3 ∷ 3 ∷ 3 ∷ [])

abbrev fours : Lengths
fours = lengths (4 ∷ 4 ∷ 4 ∷ [])

pillow_places : map (place_of pillow old fours (even old fours) pillow_z) (inside 0 1 1 ∷ inside 0 2 1 ∷ inside 0 3 1
    ∷ inside 0 4 1 ∷ inside 0 5 1 ∷ inside 0 6 1 ∷ inside 0 7 1 ∷ inside 0 5 2 ∷ inside 0 7 3 ∷ []) ≡ pos 562500 ∷ pos
    750000 ∷ pos 562500 ∷ pos 0 ∷ negsuc 562499 ∷ negsuc 749999 ∷ negsuc 562499 ∷ negsuc 749999 ∷ negsuc 562499 ∷ []
pillow_places = refl

-- Arc 0 has the shares 1000, 3000 and 0; all others have none.
abbrev some_shares : Shares
some_shares arc edge = cond (arc == 0) (slice_index_or (1000 ∷ 3000 ∷ 0 ∷ []) edge 0) 0

abbrev step : (edge some : ℕ) → Step
step edge some = record { edge = edge; some = some; parts = ONE }

abbrev twos : Lengths
twos = lengths (2 ∷ 2 ∷ 2 ∷ [])

-- The middle is a third of the second edge; without shares it is half of it.
middle_shared : map (shared_step old twos some_shares 0) (0 ∷ 1 ∷ 2 ∷ []) ≡ step 0 0 ∷ step 1 (ONE / 3) ∷ step 3 0 ∷ []
middle_shared = refl

middle_alike : map (shared_step old twos some_shares 1) (0 ∷ 1 ∷ 2 ∷ []) ≡ step 0 0 ∷ step 1 (ONE / 2) ∷ step 3 0 ∷ []
middle_alike = refl

-- With four new edges the first point lies at the end of the first old edge: the last edge gets none.
quarters_shared : map (shared_step old fours some_shares 0) (1 ∷ 2 ∷ 3 ∷ [])
    ≡ step 1 0 ∷ step 1 (ONE / 3) ∷ step 1 (2 * ONE / 3) ∷ []
quarters_shared = refl

-- The south side of the pillow uses the arc twice, the second time against its direction: its points lie as far from
-- the end of the side as from its beginning.
pillow_south : map (parameter pillow old fours (shared old fours some_shares) 0 south)
    (0 ∷ 1 ∷ 2 ∷ 3 ∷ 4 ∷ 5 ∷ 6 ∷ 7 ∷ [])
    ≡ 0 ∷ ONE ∷ 5726623061 ∷ 7158278826 ∷ (3 * ONE) ∷ (6 * ONE - 7158278826) ∷ (6 * ONE - 5726623061) ∷ (5 * ONE) ∷ []
pillow_south = refl

-- So it is from the other end.
pillow_turned : map (parameter_back pillow old fours (shared old fours some_shares) 0 south)
    (1 ∷ 2 ∷ 3 ∷ 4 ∷ 5 ∷ 6 ∷ 7 ∷ 8 ∷ [])
    ≡ (5 * ONE) ∷ (6 * ONE - 5726623061) ∷ (6 * ONE - 7158278826) ∷ (3 * ONE) ∷ 7158278826 ∷ 5726623061 ∷ ONE ∷ 0 ∷ []
pillow_turned = refl
