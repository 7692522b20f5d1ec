-- The definitions of the new soup and of its places, computed on a square and on the stepped cylinder.
use Rattle.std.proofs.Common.{◌≡◌, ℕ, true, false, [], ◌∷◌, map, ℤ, pos, None, refl}
use Rattle.std.specs.Prelude.{neg_ℤ}
use Rattle.def_layout.specs.{declared.tmesh.SideArc.SideArc, Layouts.Layout, Arcs.long_at}
use Rattle.def_text.specs.{FaceSet.FaceSet, Types.Position, Types.Positions}
use Rattle.def_remesh.specs.{NewSoup.new_places, NewSoup.new_soup, NewPoints.lengths_in, NewPoints.multiple_of}
use Rattle.def_remesh.specs.{Refined.refined_faces, Spaced.shares_along}
use Rattle.def_written.specs.{Places.ONE, Spacings.edge_begin, Spacings.shared_step}

abbrev square : FaceSet
square = record {
  pos = (pos 0 ∷ pos 0 ∷ pos 0 ∷ []) ∷ (pos 2000000 ∷ pos 0 ∷ pos 0 ∷ []) ∷
      (pos 2000000 ∷ pos 2000000 ∷ pos 0 ∷ []) ∷ (pos 0 ∷ pos 2000000 ∷ pos 0 ∷ []) ∷ [];
  faces = (0 ∷ 1 ∷ 2 ∷ 3 ∷ []) ∷ [];
  names = 1 ∷ 2 ∷ 3 ∷ 4 ∷ [];
}

abbrev ahead : (arc : ℕ) → SideArc
ahead a = record { arc = a; forward = true }

-- Its four edges are arcs round one patch.
abbrev layout : Layout
layout = record {
  nodes = 0 ∷ 1 ∷ 2 ∷ 3 ∷ [];
  arcs = record { first = 0; last = 1; darts = 0 ∷ [] } ∷ record { first = 1; last = 2; darts = 1 ∷ [] } ∷
      record { first = 2; last = 3; darts = 2 ∷ [] } ∷ record { first = 3; last = 0; darts = 3 ∷ [] } ∷ [];
  patches = record { w = 1; h = 1; cells = 0 ∷ [] } ∷ [];
  sides = ((ahead 0 ∷ []) ∷ (ahead 1 ∷ []) ∷ (ahead 2 ∷ []) ∷ (ahead 3 ∷ []) ∷ []) ∷ [];
}

square_soup : new_soup square layout (multiple_of 2 (long_at layout.arcs)) ≡ record {
  pos = (pos 0 ∷ pos 0 ∷ pos 0 ∷ []) ∷ (pos 2000000 ∷ pos 0 ∷ pos 0 ∷ []) ∷
      (pos 2000000 ∷ pos 2000000 ∷ pos 0 ∷ []) ∷ (pos 0 ∷ pos 2000000 ∷ pos 0 ∷ []) ∷
      (pos 1000000 ∷ pos 0 ∷ pos 0 ∷ []) ∷ (pos 2000000 ∷ pos 1000000 ∷ pos 0 ∷ []) ∷
      (pos 1000000 ∷ pos 2000000 ∷ pos 0 ∷ []) ∷ (pos 0 ∷ pos 1000000 ∷ pos 0 ∷ []) ∷
      (pos 1000000 ∷ pos 1000000 ∷ pos 0 ∷ []) ∷ [];
  faces = (0 ∷ 4 ∷ 8 ∷ 7 ∷ []) ∷ (4 ∷ 1 ∷ 5 ∷ 8 ∷ []) ∷ (7 ∷ 8 ∷ 6 ∷ 3 ∷ []) ∷ (8 ∷ 5 ∷ 2 ∷ 6 ∷ []) ∷ [];
  names = 1 ∷ 2 ∷ 3 ∷ 4 ∷ 5 ∷ 6 ∷ 7 ∷ 8 ∷ 9 ∷ [];
}
square_soup = refl

square_faces : refined_faces 1000 layout ≡ 1000000
square_faces = refl

abbrev minus : (n : ℕ) → ℤ
minus n = neg_ℤ (pos n)

abbrev at : (x y z : ℤ) → Position
at x y z = x ∷ y ∷ z ∷ []

-- A square that is cut in nine: its corners, then the points along its edges, then those inside.
abbrev large : Positions
large = at (pos 0) (pos 0) (pos 0) ∷ at (pos 3000000) (pos 0) (pos 0) ∷
    at (pos 3000000) (pos 3000000) (pos 0) ∷ at (pos 0) (pos 3000000) (pos 0) ∷ []

large_places : new_places square.faces layout large None (multiple_of 3 (long_at layout.arcs)) ≡ at (pos 0) (pos 0)
    (pos 0) ∷ at (pos 3000000) (pos 0) (pos 0) ∷ at (pos 3000000) (pos 3000000) (pos 0) ∷ at (pos 0) (pos 3000000)
    (pos 0) ∷ at (pos 1000000) (pos 0) (pos 0) ∷ at (pos 2000000) (pos 0) (pos 0) ∷ at (pos 3000000) (pos 1000000)
    (pos 0) ∷ at (pos 3000000) (pos 2000000) (pos 0) ∷ at (pos 2000000) (pos 3000000) (pos 0) ∷ at (pos 1000000)
    (pos 3000000) (pos 0) ∷ at (pos 0) (pos 2000000) (pos 0) ∷ at (pos 0) (pos 1000000) (pos 0) ∷ at (pos 1000000)
    (pos 1000000) (pos 0) ∷ at (pos 2000000) (pos 1000000) (pos 0) ∷ at (pos 1000000) (pos 2000000) (pos 0) ∷ at
    (pos 2000000) (pos 2000000) (pos 0) ∷ []
large_places = refl

-- The stepped cylinder: three patches of three by three faces, whose arcs have length 3.
abbrev back : (arc : ℕ) → SideArc
back a = record { arc = a; forward = false }

abbrev cylinder : FaceSet
cylinder = record {
  pos = at (pos 2000000) (pos 0) (pos 0) ∷ at (pos 1000000) (pos 2000000) (pos 0) ∷
      at (minus 1000000) (pos 2000000) (pos 0) ∷ at (minus 2000000) (pos 0) (pos 0) ∷
      at (minus 1000000) (minus 2000000) (pos 0) ∷ at (pos 1000000) (minus 2000000) (pos 0) ∷
      at (pos 2000000) (pos 0) (pos 1000000) ∷ at (pos 1000000) (pos 2000000) (pos 1000000) ∷
      at (minus 1000000) (pos 2000000) (pos 1000000) ∷ at (minus 2000000) (pos 0) (pos 1000000) ∷
      at (minus 1000000) (minus 2000000) (pos 1000000) ∷ at (pos 1000000) (minus 2000000) (pos 1000000) ∷
      at (pos 2000000) (pos 0) (pos 2000000) ∷ at (pos 1000000) (pos 2000000) (pos 2000000) ∷
      at (minus 1000000) (pos 2000000) (pos 2000000) ∷ at (minus 2000000) (pos 0) (pos 2000000) ∷
      at (minus 1000000) (minus 2000000) (pos 2000000) ∷ at (pos 1000000) (minus 2000000) (pos 2000000) ∷
      at (pos 2000000) (pos 0) (pos 3000000) ∷ at (pos 1000000) (pos 2000000) (pos 3000000) ∷
      at (minus 1000000) (pos 2000000) (pos 3000000) ∷ at (minus 2000000) (pos 0) (pos 3000000) ∷
      at (minus 1000000) (minus 2000000) (pos 3000000) ∷ at (pos 1000000) (minus 2000000) (pos 3000000) ∷
      at (pos 2000000) (pos 0) (pos 4000000) ∷ at (pos 1000000) (pos 2000000) (pos 4000000) ∷
      at (minus 1000000) (pos 2000000) (pos 4000000) ∷ at (minus 2000000) (pos 0) (pos 4000000) ∷
      at (pos 2000000) (pos 0) (pos 5000000) ∷ at (pos 1000000) (pos 2000000) (pos 5000000) ∷
      at (minus 1000000) (pos 2000000) (pos 5000000) ∷ at (minus 2000000) (pos 0) (pos 5000000) ∷
      at (pos 2000000) (pos 0) (pos 6000000) ∷ at (pos 1000000) (pos 2000000) (pos 6000000) ∷
      at (minus 1000000) (pos 2000000) (pos 6000000) ∷ at (minus 2000000) (pos 0) (pos 6000000) ∷ [];
  faces = (0 ∷ 1 ∷ 7 ∷ 6 ∷ []) ∷ (1 ∷ 2 ∷ 8 ∷ 7 ∷ []) ∷ (2 ∷ 3 ∷ 9 ∷ 8 ∷ []) ∷ (3 ∷ 4 ∷ 10 ∷ 9 ∷ []) ∷
      (4 ∷ 5 ∷ 11 ∷ 10 ∷ []) ∷ (5 ∷ 0 ∷ 6 ∷ 11 ∷ []) ∷ (6 ∷ 7 ∷ 13 ∷ 12 ∷ []) ∷ (7 ∷ 8 ∷ 14 ∷ 13 ∷ []) ∷
      (8 ∷ 9 ∷ 15 ∷ 14 ∷ []) ∷ (9 ∷ 10 ∷ 16 ∷ 15 ∷ []) ∷ (10 ∷ 11 ∷ 17 ∷ 16 ∷ []) ∷ (11 ∷ 6 ∷ 12 ∷ 17 ∷ []) ∷
      (12 ∷ 13 ∷ 19 ∷ 18 ∷ []) ∷ (13 ∷ 14 ∷ 20 ∷ 19 ∷ []) ∷ (14 ∷ 15 ∷ 21 ∷ 20 ∷ []) ∷ (15 ∷ 16 ∷ 22 ∷ 21 ∷ []) ∷
      (16 ∷ 17 ∷ 23 ∷ 22 ∷ []) ∷ (17 ∷ 12 ∷ 18 ∷ 23 ∷ []) ∷ (18 ∷ 19 ∷ 25 ∷ 24 ∷ []) ∷ (19 ∷ 20 ∷ 26 ∷ 25 ∷ []) ∷
      (20 ∷ 21 ∷ 27 ∷ 26 ∷ []) ∷ (24 ∷ 25 ∷ 29 ∷ 28 ∷ []) ∷ (25 ∷ 26 ∷ 30 ∷ 29 ∷ []) ∷ (26 ∷ 27 ∷ 31 ∷ 30 ∷ []) ∷
      (28 ∷ 29 ∷ 33 ∷ 32 ∷ []) ∷ (29 ∷ 30 ∷ 34 ∷ 33 ∷ []) ∷ (30 ∷ 31 ∷ 35 ∷ 34 ∷ []) ∷ [];
  names = [];
}

abbrev steps : Layout
steps = record {
  nodes = 0 ∷ 3 ∷ 18 ∷ 21 ∷ 32 ∷ 35 ∷ [];
  arcs = record { first = 0; last = 1; darts = 0 ∷ 4 ∷ 8 ∷ [] } ∷
      record { first = 2; last = 0; darts = 51 ∷ 27 ∷ 3 ∷ [] } ∷
      record { first = 1; last = 3; darts = 9 ∷ 33 ∷ 57 ∷ [] } ∷
      record { first = 1; last = 0; darts = 12 ∷ 16 ∷ 20 ∷ [] } ∷
      record { first = 3; last = 2; darts = 58 ∷ 54 ∷ 50 ∷ [] } ∷
      record { first = 2; last = 3; darts = 70 ∷ 66 ∷ 62 ∷ [] } ∷
      record { first = 4; last = 2; darts = 99 ∷ 87 ∷ 75 ∷ [] } ∷
      record { first = 3; last = 5; darts = 81 ∷ 93 ∷ 105 ∷ [] } ∷
      record { first = 5; last = 4; darts = 106 ∷ 102 ∷ 98 ∷ [] } ∷ [];
  patches = record { w = 3; h = 3; cells = 0 ∷ 4 ∷ 8 ∷ 24 ∷ 28 ∷ 32 ∷ 48 ∷ 52 ∷ 56 ∷ [] } ∷
      record { w = 3; h = 3; cells = 12 ∷ 16 ∷ 20 ∷ 36 ∷ 40 ∷ 44 ∷ 60 ∷ 64 ∷ 68 ∷ [] } ∷
      record { w = 3; h = 3; cells = 72 ∷ 76 ∷ 80 ∷ 84 ∷ 88 ∷ 92 ∷ 96 ∷ 100 ∷ 104 ∷ [] } ∷ [];
  sides = ((ahead 0 ∷ []) ∷ (ahead 2 ∷ []) ∷ (ahead 4 ∷ []) ∷ (ahead 1 ∷ []) ∷ []) ∷
      ((ahead 3 ∷ []) ∷ (back 1 ∷ []) ∷ (ahead 5 ∷ []) ∷ (back 2 ∷ []) ∷ []) ∷
      ((back 4 ∷ []) ∷ (ahead 7 ∷ []) ∷ (ahead 8 ∷ []) ∷ (ahead 6 ∷ []) ∷ []) ∷ [];
}

-- Arcs that go round have length 4 or 5, and those that go up 2.
cylinder_places : new_places cylinder.faces steps cylinder.pos None
    (lengths_in (4 ∷ 2 ∷ 2 ∷ 5 ∷ 4 ∷ 5 ∷ 2 ∷ 2 ∷ 4 ∷ [])) ≡ at (pos 2000000) (pos 0) (pos 0) ∷ at (minus 2000000)
    (pos 0) (pos 0) ∷ at (pos 2000000) (pos 0) (pos 3000000) ∷ at (minus 2000000) (pos 0) (pos 3000000) ∷ at
    (pos 2000000) (pos 0) (pos 6000000) ∷ at (minus 2000000) (pos 0) (pos 6000000) ∷ at (pos 1250000) (pos 1500000)
    (pos 0) ∷ at (pos 0) (pos 2000000) (pos 0) ∷ at (minus 1250000) (pos 1500000) (pos 0) ∷ at (pos 2000000) (pos 0)
    (pos 1500000) ∷ at (minus 2000000) (pos 0) (pos 1500000) ∷ at (minus 1400000) (minus 1200000) (pos 0) ∷ at
    (minus 600000) (minus 2000000) (pos 0) ∷ at (pos 600000) (minus 2000000) (pos 0) ∷ at (pos 1400000) (minus 1200000)
    (pos 0) ∷ at (minus 1250000) (pos 1500000) (pos 3000000) ∷ at (pos 0) (pos 2000000) (pos 3000000) ∷ at (pos 1250000)
    (pos 1500000) (pos 3000000) ∷ at (pos 1400000) (minus 1200000) (pos 3000000) ∷ at (pos 600000) (minus 2000000)
    (pos 3000000) ∷ at (minus 600000) (minus 2000000) (pos 3000000) ∷ at (minus 1400000) (minus 1200000) (pos 3000000)
    ∷ at (pos 2000000) (pos 0) (pos 4500000) ∷ at (minus 2000000) (pos 0) (pos 4500000) ∷ at (minus 1250000)
    (pos 1500000) (pos 6000000) ∷ at (pos 0) (pos 2000000) (pos 6000000) ∷ at (pos 1250000) (pos 1500000) (pos 6000000)
    ∷ at (pos 1250000) (pos 1500000) (pos 1500000) ∷ at (pos 0) (pos 2000000) (pos 1500000) ∷ at (minus 1250000)
    (pos 1500000) (pos 1500000) ∷ at (minus 1400000) (minus 1200000) (pos 1500000) ∷ at (minus 600000) (minus 2000000)
    (pos 1500000) ∷ at (pos 600000) (minus 2000000) (pos 1500000) ∷ at (pos 1400000) (minus 1200000) (pos 1500000) ∷ at
    (pos 1250000) (pos 1500000) (pos 4500000) ∷ at (pos 0) (pos 2000000) (pos 4500000) ∷ at (minus 1250000)
    (pos 1500000) (pos 4500000) ∷ []
cylinder_places = refl

-- The steps of the arcs by shares: arc 0 has 1000, 3000 and 0 for the darts 0, 4 and 8.
shared_steps : map (shared_step (long_at steps.arcs) (lengths_in (2 ∷ 2 ∷ 2 ∷ 5 ∷ 4 ∷ 5 ∷ 2 ∷ 2 ∷ 4 ∷ []))
    (shares_along steps (1000 ∷ 0 ∷ 0 ∷ 0 ∷ 3000 ∷ 0 ∷ 0 ∷ 0 ∷ 0 ∷ [])) 0) (0 ∷ 1 ∷ 2 ∷ [])
    ≡ edge_begin 0 ∷ record { edge = 1; some = 1431655765; parts = ONE } ∷ edge_begin 3 ∷ []
shared_steps = refl

-- Darts behind the end of the list have all the same share.
alike_steps : map (shared_step (long_at steps.arcs) (lengths_in (2 ∷ 2 ∷ 2 ∷ 5 ∷ 4 ∷ 5 ∷ 2 ∷ 2 ∷ 4 ∷ []))
    (shares_along steps []) 1) (0 ∷ 1 ∷ 2 ∷ [])
    ≡ edge_begin 0 ∷ record { edge = 1; some = 2147483648; parts = ONE } ∷ edge_begin 3 ∷ []
alike_steps = refl
