-- The text of a traced mesh, computed on meshes whose texts are known.
use Rattle.std.proofs.Common.{◌≡◌, ℕ, true, List, [], ◌∷◌, ◌++◌, replicate, codes, refl}
use Rattle.std.specs.Fmt.{digits}
use Rattle.def_mesh.specs.Faces.{Faces}
use Rattle.def_cut.specs.{Grids.Rectangle, declared.graph.Rider.Rider, declared.graph.Stop.Stop}
use Rattle.def_cut.specs.declared.graph.Stop.TheVariants.{Boundary, Middle}
use Rattle.def_cut.specs.declared.graph.Stop.TheVariants.{Tie}
use Rattle.def_layout.specs.{Arcs.Path, Layouts.Layout, declared.tmesh.SideArc.SideArc}
use Rattle.def_report.specs.GraphText.{graph_text}

abbrev rider : (start rides : ℕ) (stop : Stop) → Rider
rider s n why = record { start = s; rides = n; stop = why }

-- Of the darts of an arc, and of the cells of a patch, the text tells only how many there are.
abbrev arc : (first last long : ℕ) → Path
arc a b n = record { first = a; last = b; darts = replicate n 0 }

abbrev patch : (w h : ℕ) → Rectangle
patch w h = record { w = w; h = h; cells = [] }

-- Nor does it tell in which direction a side uses an arc.
abbrev along : (arc : ℕ) → SideArc
along a = record { arc = a; forward = true }

-- A square with two notches.
abbrev notched : Faces
notched =
    (0 ∷ 1 ∷ 6 ∷ 5 ∷ []) ∷ (1 ∷ 2 ∷ 7 ∷ 6 ∷ []) ∷ (2 ∷ 3 ∷ 8 ∷ 7 ∷ []) ∷ (4 ∷ 5 ∷ 10 ∷ 9 ∷ []) ∷
    (5 ∷ 6 ∷ 11 ∷ 10 ∷ []) ∷ (6 ∷ 7 ∷ 12 ∷ 11 ∷ []) ∷ (7 ∷ 8 ∷ 13 ∷ 12 ∷ []) ∷ (9 ∷ 10 ∷ 15 ∷ 14 ∷ []) ∷
    (10 ∷ 11 ∷ 16 ∷ 15 ∷ []) ∷ (11 ∷ 12 ∷ 17 ∷ 16 ∷ []) ∷ (12 ∷ 13 ∷ 18 ∷ 17 ∷ []) ∷ (14 ∷ 15 ∷ 20 ∷ 19 ∷ []) ∷
    (15 ∷ 16 ∷ 21 ∷ 20 ∷ []) ∷ (16 ∷ 17 ∷ 22 ∷ 21 ∷ []) ∷ []

abbrev notched_riders : List Rider
notched_riders = rider 13 2 (Tie 15) ∷ rider 16 3 (Boundary 8) ∷ rider 38 3 (Boundary 14) ∷ rider 43 2 (Tie 7) ∷ []

abbrev notched_layout : Layout
notched_layout = record {
  nodes = 0 ∷ 3 ∷ 4 ∷ 5 ∷ 7 ∷ 8 ∷ 14 ∷ 15 ∷ 17 ∷ 18 ∷ 19 ∷ 22 ∷ [];
  arcs = arc 0 1 3 ∷ arc 4 3 2 ∷ arc 3 0 1 ∷ arc 1 5 1 ∷ arc 5 4 1 ∷ arc 2 3 1 ∷ arc 3 7 2 ∷ arc 6 2 2
      ∷ arc 4 8 2 ∷ arc 5 9 2 ∷ arc 7 6 1 ∷ arc 8 7 2 ∷ arc 9 8 1 ∷ arc 11 10 3 ∷ arc 10 6 1 ∷ arc 8 11 1 ∷ [];
  patches = patch 3 1 ∷ patch 1 2 ∷ patch 2 2 ∷ patch 1 2 ∷ patch 3 1 ∷ [];
  sides = ((along 0 ∷ []) ∷ (along 3 ∷ []) ∷ (along 4 ∷ along 1 ∷ []) ∷ (along 2 ∷ []) ∷ []) ∷ ((along 5 ∷ [])
      ∷ (along 6 ∷ []) ∷ (along 10 ∷ []) ∷ (along 7 ∷ []) ∷ []) ∷ ((along 1 ∷ []) ∷ (along 8 ∷ []) ∷ (along 11
      ∷ []) ∷ (along 6 ∷ []) ∷ []) ∷ ((along 4 ∷ []) ∷ (along 9 ∷ []) ∷ (along 12 ∷ []) ∷ (along 8 ∷ []) ∷ [])
      ∷ ((along 10 ∷ along 11 ∷ []) ∷ (along 15 ∷ []) ∷ (along 13 ∷ []) ∷ (along 14 ∷ []) ∷ []) ∷ [];
}

notched_text : graph_text notched notched_riders notched_layout ≡
    codes "quadq graph 1\nvertices 23 edges 36 faces 14 euler 1 components 1\ncorner 1 1\ncorner 4 1\n"
    ++ codes "corner 5 1\nreflex 6 3\nreflex 18 3\ncorner 19 1\ncorner 20 1\ncorner 23 1\nrider 6 11 2 tie 16\n"
    ++ codes "rider 6 7 3 boundary 9\nrider 18 17 3 boundary 15\nrider 18 13 2 tie 8\narc 1 1 4 3\narc 2 8 6 2\n"
    ++ codes "arc 3 6 1 1\narc 4 4 9 1\narc 5 9 8 1\narc 6 5 6 1\narc 7 6 16 2\narc 8 15 5 2\narc 9 8 18 2\n"
    ++ codes "arc 10 9 19 2\narc 11 16 15 1\narc 12 18 16 2\narc 13 19 18 1\narc 14 23 20 3\narc 15 20 15 1\n"
    ++ codes "arc 16 18 23 1\npatch 1 3 1\nsouth 1\neast 4\nnorth 5 2\nwest 3\npatch 2 1 2\nsouth 6\neast 7\n"
    ++ codes "north 11\nwest 8\npatch 3 2 2\nsouth 2\neast 9\nnorth 12\nwest 7\npatch 4 1 2\nsouth 5\neast 10\n"
    ++ codes "north 13\nwest 9\npatch 5 3 1\nsouth 11 12\neast 16\nnorth 14\nwest 15\n"
unfolding digits
notched_text = refl

-- A torus of four by four faces.
abbrev torus : Faces
torus =
    (0 ∷ 1 ∷ 5 ∷ 4 ∷ []) ∷ (1 ∷ 2 ∷ 6 ∷ 5 ∷ []) ∷ (2 ∷ 3 ∷ 7 ∷ 6 ∷ []) ∷ (3 ∷ 0 ∷ 4 ∷ 7 ∷ []) ∷
    (4 ∷ 5 ∷ 9 ∷ 8 ∷ []) ∷ (5 ∷ 6 ∷ 10 ∷ 9 ∷ []) ∷ (6 ∷ 7 ∷ 11 ∷ 10 ∷ []) ∷ (7 ∷ 4 ∷ 8 ∷ 11 ∷ []) ∷
    (8 ∷ 9 ∷ 13 ∷ 12 ∷ []) ∷ (9 ∷ 10 ∷ 14 ∷ 13 ∷ []) ∷ (10 ∷ 11 ∷ 15 ∷ 14 ∷ []) ∷ (11 ∷ 8 ∷ 12 ∷ 15 ∷ []) ∷
    (12 ∷ 13 ∷ 1 ∷ 0 ∷ []) ∷ (13 ∷ 14 ∷ 2 ∷ 1 ∷ []) ∷ (14 ∷ 15 ∷ 3 ∷ 2 ∷ []) ∷ (15 ∷ 12 ∷ 0 ∷ 3 ∷ []) ∷ []

abbrev torus_riders : List Rider
torus_riders = rider 0 2 (Tie 2) ∷ rider 13 2 (Tie 8) ∷ rider 51 2 (Tie 8) ∷ rider 62 2 (Tie 2) ∷ []

abbrev torus_layout : Layout
torus_layout = record {
  nodes = 0 ∷ [];
  arcs = arc 0 0 4 ∷ arc 0 0 4 ∷ [];
  patches = patch 4 4 ∷ [];
  sides = ((along 0 ∷ []) ∷ (along 1 ∷ []) ∷ (along 0 ∷ []) ∷ (along 1 ∷ []) ∷ []) ∷ [];
}

torus_text : graph_text torus torus_riders torus_layout ≡
    codes "quadq graph 1\nvertices 16 edges 32 faces 16 euler 0 components 1\nseed 1\nrider 1 2 2 tie 3\n"
    ++ codes "rider 1 5 2 tie 9\nrider 1 13 2 tie 9\nrider 1 4 2 tie 3\narc 1 1 1 4\narc 2 1 1 4\npatch 1 4 4\n"
    ++ codes "south 1\neast 2\nnorth 1\nwest 2\n"
unfolding digits
torus_text = refl

-- A cylinder, whose rings have one seed.
abbrev cylinder : Faces
cylinder =
    (0 ∷ 1 ∷ 7 ∷ 6 ∷ []) ∷ (1 ∷ 2 ∷ 8 ∷ 7 ∷ []) ∷ (2 ∷ 3 ∷ 9 ∷ 8 ∷ []) ∷ (3 ∷ 4 ∷ 10 ∷ 9 ∷ []) ∷
    (4 ∷ 5 ∷ 11 ∷ 10 ∷ []) ∷ (5 ∷ 0 ∷ 6 ∷ 11 ∷ []) ∷ (6 ∷ 7 ∷ 13 ∷ 12 ∷ []) ∷ (7 ∷ 8 ∷ 14 ∷ 13 ∷ []) ∷
    (8 ∷ 9 ∷ 15 ∷ 14 ∷ []) ∷ (9 ∷ 10 ∷ 16 ∷ 15 ∷ []) ∷ (10 ∷ 11 ∷ 17 ∷ 16 ∷ []) ∷ (11 ∷ 6 ∷ 12 ∷ 17 ∷ []) ∷
    (12 ∷ 13 ∷ 19 ∷ 18 ∷ []) ∷ (13 ∷ 14 ∷ 20 ∷ 19 ∷ []) ∷ (14 ∷ 15 ∷ 21 ∷ 20 ∷ []) ∷ (15 ∷ 16 ∷ 22 ∷ 21 ∷ []) ∷
    (16 ∷ 17 ∷ 23 ∷ 22 ∷ []) ∷ (17 ∷ 12 ∷ 18 ∷ 23 ∷ []) ∷ []

abbrev cylinder_riders : List Rider
cylinder_riders = rider 21 3 (Boundary 18) ∷ []

abbrev cylinder_layout : Layout
cylinder_layout = record {
  nodes = 0 ∷ 18 ∷ [];
  arcs = arc 0 0 6 ∷ arc 1 0 3 ∷ arc 1 1 6 ∷ [];
  patches = patch 6 3 ∷ [];
  sides = ((along 0 ∷ []) ∷ (along 1 ∷ []) ∷ (along 2 ∷ []) ∷ (along 1 ∷ []) ∷ []) ∷ [];
}

cylinder_text : graph_text cylinder cylinder_riders cylinder_layout ≡
    codes "quadq graph 1\nvertices 24 edges 42 faces 18 euler 0 components 1\nseed 1\nrider 1 7 3 boundary 19\n"
    ++ codes "arc 1 1 1 6\narc 2 19 1 3\narc 3 19 19 6\npatch 1 6 3\nsouth 1\neast 2\nnorth 3\nwest 2\n"
unfolding digits
cylinder_text = refl

-- A cube.
abbrev cube : Faces
cube =
    (3 ∷ 2 ∷ 1 ∷ 0 ∷ []) ∷ (4 ∷ 5 ∷ 6 ∷ 7 ∷ []) ∷ (0 ∷ 1 ∷ 5 ∷ 4 ∷ []) ∷ (1 ∷ 2 ∷ 6 ∷ 5 ∷ []) ∷
    (2 ∷ 3 ∷ 7 ∷ 6 ∷ []) ∷ (3 ∷ 0 ∷ 4 ∷ 7 ∷ []) ∷ []

abbrev cube_riders : List Rider
cube_riders = rider 0 1 (Middle 3 2) ∷ rider 1 1 (Middle 2 1) ∷ rider 2 1 (Middle 1 0) ∷ rider 3 1 (Middle 0 3)
    ∷ rider 4 1 (Middle 4 5) ∷ rider 5 1 (Middle 5 6) ∷ rider 6 1 (Middle 6 7) ∷ rider 7 1 (Middle 7 4)
    ∷ rider 8 1 (Middle 0 1) ∷ rider 9 1 (Middle 1 5) ∷ rider 10 1 (Middle 5 4) ∷ rider 11 1 (Middle 4 0)
    ∷ rider 12 1 (Middle 1 2) ∷ rider 13 1 (Middle 2 6) ∷ rider 14 1 (Middle 6 5) ∷ rider 15 1 (Middle 5 1)
    ∷ rider 16 1 (Middle 2 3) ∷ rider 17 1 (Middle 3 7) ∷ rider 18 1 (Middle 7 6) ∷ rider 19 1 (Middle 6 2)
    ∷ rider 20 1 (Middle 3 0) ∷ rider 21 1 (Middle 0 4) ∷ rider 22 1 (Middle 4 7) ∷ rider 23 1 (Middle 7 3) ∷ []

abbrev cube_layout : Layout
cube_layout = record {
  nodes = 0 ∷ 1 ∷ 2 ∷ 3 ∷ 4 ∷ 5 ∷ 6 ∷ 7 ∷ [];
  arcs = arc 3 2 1 ∷ arc 2 1 1 ∷ arc 1 0 1 ∷ arc 0 3 1 ∷ arc 4 5 1 ∷ arc 5 6 1 ∷ arc 6 7 1 ∷ arc 7 4 1
      ∷ arc 1 5 1 ∷ arc 4 0 1 ∷ arc 2 6 1 ∷ arc 3 7 1 ∷ [];
  patches = patch 1 1 ∷ patch 1 1 ∷ patch 1 1 ∷ patch 1 1 ∷ patch 1 1 ∷ patch 1 1 ∷ [];
  sides = ((along 0 ∷ []) ∷ (along 1 ∷ []) ∷ (along 2 ∷ []) ∷ (along 3 ∷ []) ∷ []) ∷ ((along 4 ∷ []) ∷ (along 5
      ∷ []) ∷ (along 6 ∷ []) ∷ (along 7 ∷ []) ∷ []) ∷ ((along 2 ∷ []) ∷ (along 8 ∷ []) ∷ (along 4 ∷ [])
      ∷ (along 9 ∷ []) ∷ []) ∷ ((along 1 ∷ []) ∷ (along 10 ∷ []) ∷ (along 5 ∷ []) ∷ (along 8 ∷ []) ∷ [])
      ∷ ((along 0 ∷ []) ∷ (along 11 ∷ []) ∷ (along 6 ∷ []) ∷ (along 10 ∷ []) ∷ []) ∷ ((along 3 ∷ []) ∷ (along 9
      ∷ []) ∷ (along 7 ∷ []) ∷ (along 11 ∷ []) ∷ []) ∷ [];
}

cube_text : graph_text cube cube_riders cube_layout ≡
    codes "quadq graph 1\nvertices 8 edges 12 faces 6 euler 2 components 1\nsingular 1 3\nsingular 2 3\n"
    ++ codes "singular 3 3\nsingular 4 3\nsingular 5 3\nsingular 6 3\nsingular 7 3\nsingular 8 3\n"
    ++ codes "rider 4 3 1 middle 4 3\nrider 3 2 1 middle 3 2\nrider 2 1 1 middle 2 1\nrider 1 4 1 middle 1 4\n"
    ++ codes "rider 5 6 1 middle 5 6\nrider 6 7 1 middle 6 7\nrider 7 8 1 middle 7 8\nrider 8 5 1 middle 8 5\n"
    ++ codes "rider 1 2 1 middle 1 2\nrider 2 6 1 middle 2 6\nrider 6 5 1 middle 6 5\nrider 5 1 1 middle 5 1\n"
    ++ codes "rider 2 3 1 middle 2 3\nrider 3 7 1 middle 3 7\nrider 7 6 1 middle 7 6\nrider 6 2 1 middle 6 2\n"
    ++ codes "rider 3 4 1 middle 3 4\nrider 4 8 1 middle 4 8\nrider 8 7 1 middle 8 7\nrider 7 3 1 middle 7 3\n"
    ++ codes "rider 4 1 1 middle 4 1\nrider 1 5 1 middle 1 5\nrider 5 8 1 middle 5 8\nrider 8 4 1 middle 8 4\n"
    ++ codes "arc 1 4 3 1\narc 2 3 2 1\narc 3 2 1 1\narc 4 1 4 1\narc 5 5 6 1\narc 6 6 7 1\narc 7 7 8 1\n"
    ++ codes "arc 8 8 5 1\narc 9 2 6 1\narc 10 5 1 1\narc 11 3 7 1\narc 12 4 8 1\npatch 1 1 1\nsouth 1\neast 2\n"
    ++ codes "north 3\nwest 4\npatch 2 1 1\nsouth 5\neast 6\nnorth 7\nwest 8\npatch 3 1 1\nsouth 3\neast 9\n"
    ++ codes "north 5\nwest 10\npatch 4 1 1\nsouth 2\neast 11\nnorth 6\nwest 9\npatch 5 1 1\nsouth 1\neast 12\n"
    ++ codes "north 7\nwest 11\npatch 6 1 1\nsouth 4\neast 10\nnorth 8\nwest 12\n"
unfolding digits
cube_text = refl

-- Three flaps.
abbrev flaps : Faces
flaps =
    (0 ∷ 1 ∷ 2 ∷ 3 ∷ []) ∷ (1 ∷ 4 ∷ 5 ∷ 2 ∷ []) ∷ (4 ∷ 6 ∷ 7 ∷ 5 ∷ []) ∷ (3 ∷ 2 ∷ 8 ∷ 9 ∷ []) ∷
    (2 ∷ 5 ∷ 10 ∷ 8 ∷ []) ∷ (5 ∷ 7 ∷ 11 ∷ 10 ∷ []) ∷ (9 ∷ 8 ∷ 12 ∷ 13 ∷ []) ∷ (8 ∷ 10 ∷ 14 ∷ 12 ∷ []) ∷
    (10 ∷ 11 ∷ 15 ∷ 14 ∷ []) ∷ (0 ∷ 3 ∷ 16 ∷ 17 ∷ []) ∷ (3 ∷ 9 ∷ 18 ∷ 16 ∷ []) ∷ (9 ∷ 13 ∷ 19 ∷ 18 ∷ []) ∷
    (17 ∷ 16 ∷ 20 ∷ 21 ∷ []) ∷ (16 ∷ 18 ∷ 22 ∷ 20 ∷ []) ∷ (18 ∷ 19 ∷ 23 ∷ 22 ∷ []) ∷ (21 ∷ 20 ∷ 24 ∷ 25 ∷ []) ∷
    (20 ∷ 22 ∷ 26 ∷ 24 ∷ []) ∷ (22 ∷ 23 ∷ 27 ∷ 26 ∷ []) ∷ (0 ∷ 17 ∷ 28 ∷ 1 ∷ []) ∷ (17 ∷ 21 ∷ 29 ∷ 28 ∷ []) ∷
    (21 ∷ 25 ∷ 30 ∷ 29 ∷ []) ∷ (1 ∷ 28 ∷ 31 ∷ 4 ∷ []) ∷ (28 ∷ 29 ∷ 32 ∷ 31 ∷ []) ∷ (29 ∷ 30 ∷ 33 ∷ 32 ∷ []) ∷
    (4 ∷ 31 ∷ 34 ∷ 6 ∷ []) ∷ (31 ∷ 32 ∷ 35 ∷ 34 ∷ []) ∷ (32 ∷ 33 ∷ 36 ∷ 35 ∷ []) ∷ (35 ∷ 36 ∷ 37 ∷ 38 ∷ []) ∷
    (34 ∷ 35 ∷ 38 ∷ 39 ∷ []) ∷ (6 ∷ 34 ∷ 39 ∷ 40 ∷ []) ∷ (7 ∷ 6 ∷ 40 ∷ 41 ∷ []) ∷ (11 ∷ 7 ∷ 41 ∷ 42 ∷ []) ∷
    (15 ∷ 11 ∷ 42 ∷ 43 ∷ []) ∷ (38 ∷ 37 ∷ 44 ∷ 45 ∷ []) ∷ (39 ∷ 38 ∷ 45 ∷ 46 ∷ []) ∷ (40 ∷ 39 ∷ 46 ∷ 47 ∷ []) ∷
    (41 ∷ 40 ∷ 47 ∷ 48 ∷ []) ∷ (42 ∷ 41 ∷ 48 ∷ 49 ∷ []) ∷ (43 ∷ 42 ∷ 49 ∷ 50 ∷ []) ∷ (14 ∷ 15 ∷ 51 ∷ 52 ∷ []) ∷
    (12 ∷ 14 ∷ 52 ∷ 53 ∷ []) ∷ (13 ∷ 12 ∷ 53 ∷ 54 ∷ []) ∷ (19 ∷ 13 ∷ 54 ∷ 55 ∷ []) ∷ (23 ∷ 19 ∷ 55 ∷ 56 ∷ []) ∷
    (27 ∷ 23 ∷ 56 ∷ 57 ∷ []) ∷ (52 ∷ 51 ∷ 58 ∷ 59 ∷ []) ∷ (53 ∷ 52 ∷ 59 ∷ 60 ∷ []) ∷ (54 ∷ 53 ∷ 60 ∷ 61 ∷ []) ∷
    (55 ∷ 54 ∷ 61 ∷ 62 ∷ []) ∷ (56 ∷ 55 ∷ 62 ∷ 63 ∷ []) ∷ (57 ∷ 56 ∷ 63 ∷ 64 ∷ []) ∷ (26 ∷ 27 ∷ 65 ∷ 66 ∷ []) ∷
    (24 ∷ 26 ∷ 66 ∷ 67 ∷ []) ∷ (25 ∷ 24 ∷ 67 ∷ 68 ∷ []) ∷ (30 ∷ 25 ∷ 68 ∷ 69 ∷ []) ∷ (33 ∷ 30 ∷ 69 ∷ 70 ∷ []) ∷
    (36 ∷ 33 ∷ 70 ∷ 71 ∷ []) ∷ (66 ∷ 65 ∷ 72 ∷ 73 ∷ []) ∷ (67 ∷ 66 ∷ 73 ∷ 74 ∷ []) ∷ (68 ∷ 67 ∷ 74 ∷ 75 ∷ []) ∷
    (69 ∷ 68 ∷ 75 ∷ 76 ∷ []) ∷ (70 ∷ 69 ∷ 76 ∷ 77 ∷ []) ∷ (71 ∷ 70 ∷ 77 ∷ 78 ∷ []) ∷ []

abbrev flaps_riders : List Rider
flaps_riders = rider 0 3 (Tie 6) ∷ rider 34 3 (Tie 13) ∷ rider 36 3 (Tie 13) ∷ rider 70 3 (Tie 25)
    ∷ rider 72 3 (Tie 25) ∷ rider 106 3 (Tie 6) ∷ rider 128 3 (Tie 6) ∷ rider 176 3 (Tie 13)
    ∷ rider 224 3 (Tie 25) ∷ []

abbrev flaps_layout : Layout
flaps_layout = record {
  nodes = 0 ∷ 6 ∷ 13 ∷ 15 ∷ 25 ∷ 27 ∷ 36 ∷ 44 ∷ 50 ∷ 58 ∷ 64 ∷ 72 ∷ 78 ∷ [];
  arcs = arc 0 1 3 ∷ arc 2 0 3 ∷ arc 1 3 3 ∷ arc 3 2 3 ∷ arc 4 0 3 ∷ arc 2 5 3 ∷ arc 5 4 3 ∷ arc 4 6 3
      ∷ arc 6 1 3 ∷ arc 6 7 2 ∷ arc 8 3 2 ∷ arc 7 8 6 ∷ arc 3 9 2 ∷ arc 10 5 2 ∷ arc 9 10 6 ∷ arc 5 11 2
      ∷ arc 12 6 2 ∷ arc 11 12 6 ∷ [];
  patches = patch 3 3 ∷ patch 3 3 ∷ patch 3 3 ∷ patch 2 6 ∷ patch 2 6 ∷ patch 2 6 ∷ [];
  sides = ((along 0 ∷ []) ∷ (along 2 ∷ []) ∷ (along 3 ∷ []) ∷ (along 1 ∷ []) ∷ []) ∷ ((along 1 ∷ []) ∷ (along 5
      ∷ []) ∷ (along 6 ∷ []) ∷ (along 4 ∷ []) ∷ []) ∷ ((along 4 ∷ []) ∷ (along 7 ∷ []) ∷ (along 8 ∷ [])
      ∷ (along 0 ∷ []) ∷ []) ∷ ((along 9 ∷ []) ∷ (along 11 ∷ []) ∷ (along 10 ∷ []) ∷ (along 2 ∷ along 8 ∷ [])
      ∷ []) ∷ ((along 12 ∷ []) ∷ (along 14 ∷ []) ∷ (along 13 ∷ []) ∷ (along 5 ∷ along 3 ∷ []) ∷ []) ∷ ((along 15
      ∷ []) ∷ (along 17 ∷ []) ∷ (along 16 ∷ []) ∷ (along 7 ∷ along 6 ∷ []) ∷ []) ∷ [];
}

flaps_text : graph_text flaps flaps_riders flaps_layout ≡
    codes "quadq graph 1\nvertices 79 edges 141 faces 63 euler 1 components 1\nsingular 1 3\nreflex 16 3\n"
    ++ codes "reflex 28 3\nreflex 37 3\ncorner 45 1\ncorner 51 1\ncorner 59 1\ncorner 65 1\ncorner 73 1\n"
    ++ codes "corner 79 1\nrider 1 2 3 tie 7\nrider 16 15 3 tie 14\nrider 1 4 3 tie 14\nrider 28 27 3 tie 26\n"
    ++ codes "rider 1 18 3 tie 26\nrider 37 36 3 tie 7\nrider 16 12 3 tie 7\nrider 28 24 3 tie 14\n"
    ++ codes "rider 37 34 3 tie 26\narc 1 1 7 3\narc 2 14 1 3\narc 3 7 16 3\narc 4 16 14 3\narc 5 26 1 3\n"
    ++ codes "arc 6 14 28 3\narc 7 28 26 3\narc 8 26 37 3\narc 9 37 7 3\narc 10 37 45 2\narc 11 51 16 2\n"
    ++ codes "arc 12 45 51 6\narc 13 16 59 2\narc 14 65 28 2\narc 15 59 65 6\narc 16 28 73 2\narc 17 79 37 2\n"
    ++ codes "arc 18 73 79 6\npatch 1 3 3\nsouth 1\neast 3\nnorth 4\nwest 2\npatch 2 3 3\nsouth 2\neast 6\n"
    ++ codes "north 7\nwest 5\npatch 3 3 3\nsouth 5\neast 8\nnorth 9\nwest 1\npatch 4 2 6\nsouth 10\neast 12\n"
    ++ codes "north 11\nwest 3 9\npatch 5 2 6\nsouth 13\neast 15\nnorth 14\nwest 6 4\npatch 6 2 6\nsouth 16\n"
    ++ codes "east 18\nnorth 17\nwest 8 7\n"
unfolding digits
flaps_text = refl
