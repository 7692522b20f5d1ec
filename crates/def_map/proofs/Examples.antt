-- The text of where new vertices and faces lie, computed on a square and on two squares in a row.
use Rattle.std.proofs.Common.{◌≡◌, ℕ, true, [], ◌∷◌, ◌++◌, refl}
use Rattle.std.specs.{Prelude.codes, Prelude.None, Prelude.Some, Fmt.digits}
use Rattle.def_layout.specs.{Layouts.Layout, declared.tmesh.SideArc.SideArc}
use Rattle.def_remesh.specs.NewPoints.{lengths_in}
use Rattle.def_text.specs.FaceSet.{FaceSet}
use Rattle.def_map.specs.MapText.{map_text}

abbrev square : FaceSet
square = record { pos = []; faces = (0 ∷ 1 ∷ 2 ∷ 3 ∷ []) ∷ []; names = 1 ∷ 2 ∷ 3 ∷ 4 ∷ [] }

abbrev ahead : (arc : ℕ) → SideArc
ahead a = record { arc = a; forward = true }

-- Its four edges are arcs round one patch.
abbrev square_layout : Layout
square_layout = record {
  nodes = 0 ∷ 1 ∷ 2 ∷ 3 ∷ [];
  arcs = record { first = 0; last = 1; darts = 0 ∷ [] } ∷ record { first = 1; last = 2; darts = 1 ∷ [] } ∷
      record { first = 2; last = 3; darts = 2 ∷ [] } ∷ record { first = 3; last = 0; darts = 3 ∷ [] } ∷ [];
  patches = record { w = 1; h = 1; cells = 0 ∷ [] } ∷ [];
  sides = ((ahead 0 ∷ []) ∷ (ahead 1 ∷ []) ∷ (ahead 2 ∷ []) ∷ (ahead 3 ∷ []) ∷ []) ∷ [];
}

-- Two squares in a row. The second begins with its fourth corner, and two `v` lines of the file are used by no face.
abbrev strip : FaceSet
strip = record {
  pos = [];
  faces = (0 ∷ 1 ∷ 4 ∷ 3 ∷ []) ∷ (4 ∷ 1 ∷ 2 ∷ 5 ∷ []) ∷ [];
  names = 1 ∷ 3 ∷ 4 ∷ 5 ∷ 6 ∷ 8 ∷ [];
}

abbrev strip_layout : Layout
strip_layout = record {
  nodes = 0 ∷ 2 ∷ 3 ∷ 5 ∷ [];
  arcs = record { first = 0; last = 1; darts = 0 ∷ 5 ∷ [] } ∷ record { first = 3; last = 2; darts = 7 ∷ 2 ∷ [] } ∷
      record { first = 2; last = 0; darts = 3 ∷ [] } ∷ record { first = 1; last = 3; darts = 6 ∷ [] } ∷ [];
  patches = record { w = 2; h = 1; cells = 0 ∷ 5 ∷ [] } ∷ [];
  sides = ((ahead 0 ∷ []) ∷ (ahead 3 ∷ []) ∷ (ahead 1 ∷ []) ∷ (ahead 2 ∷ []) ∷ []) ∷ [];
}

-- Each edge is divided in two.
square_doubled : map_text square square_layout None (lengths_in (2 ∷ 2 ∷ 2 ∷ 2 ∷ [])) ≡
    codes "quadq map 1\n" ++
    codes "vertices 9 faces 4\n" ++
    codes "vertex 1\n" ++
    codes "vertex 2\n" ++
    codes "vertex 3\n" ++
    codes "vertex 4\n" ++
    codes "edge 1 2 1 2\n" ++
    codes "edge 2 3 1 2\n" ++
    codes "edge 3 4 1 2\n" ++
    codes "edge 4 1 1 2\n" ++
    codes "face 1 1 2147483648 2147483648\n" ++
    codes "cell 1 1 0 0 2147483648 0 2147483648 2147483648 0 2147483648\n" ++
    codes "cell 1 1 2147483648 0 4294967296 0 4294967296 2147483648 2147483648 2147483648\n" ++
    codes "cell 1 1 0 2147483648 2147483648 2147483648 2147483648 4294967296 0 4294967296\n" ++
    codes "cell 1 1 2147483648 2147483648 4294967296 2147483648 4294967296 4294967296 2147483648 4294967296\n"
unfolding digits
square_doubled = refl

-- Three faces for two. Parameters and their means are rounded down, so the middle one lies in the face to the west.
strip_thirds : map_text strip strip_layout None (lengths_in (3 ∷ 3 ∷ 1 ∷ 1 ∷ [])) ≡
    codes "quadq map 1\n" ++
    codes "vertices 8 faces 3\n" ++
    codes "vertex 1\n" ++
    codes "vertex 4\n" ++
    codes "vertex 5\n" ++
    codes "vertex 8\n" ++
    codes "edge 1 3 2 3\n" ++
    codes "edge 3 4 1 3\n" ++
    codes "edge 8 6 2 3\n" ++
    codes "edge 6 5 1 3\n" ++
    codes "cell 1 1 0 0 2863311530 0 2863311530 4294967296 0 4294967296\n" ++
    codes "cell 1 1 2863311530 0 5726623061 0 5726623061 4294967296 2863311530 4294967296\n" ++
    codes "cell 2 2 1431655765 0 4294967296 0 4294967296 4294967296 1431655765 4294967296\n"
unfolding digits
strip_thirds = refl

-- One face for two. Its middle lies on the edge between them, so it lies in the face to the east, and reaches out.
strip_whole : map_text strip strip_layout None (lengths_in (1 ∷ 1 ∷ 1 ∷ 1 ∷ [])) ≡
    codes "quadq map 1\n" ++
    codes "vertices 4 faces 1\n" ++
    codes "vertex 1\n" ++
    codes "vertex 4\n" ++
    codes "vertex 5\n" ++
    codes "vertex 8\n" ++
    codes "cell 2 2 -4294967296 0 4294967296 0 4294967296 4294967296 -4294967296 4294967296\n"
unfolding digits
strip_whole = refl

-- Four columns and two rows: inner points of arcs that lie at old vertices.
strip_doubled : map_text strip strip_layout None (lengths_in (4 ∷ 4 ∷ 2 ∷ 2 ∷ [])) ≡
    codes "quadq map 1\n" ++
    codes "vertices 15 faces 8\n" ++
    codes "vertex 1\n" ++
    codes "vertex 4\n" ++
    codes "vertex 5\n" ++
    codes "vertex 8\n" ++
    codes "edge 1 3 2 4\n" ++
    codes "vertex 3\n" ++
    codes "edge 3 4 2 4\n" ++
    codes "edge 8 6 2 4\n" ++
    codes "vertex 6\n" ++
    codes "edge 6 5 2 4\n" ++
    codes "edge 5 1 1 2\n" ++
    codes "edge 4 8 1 2\n" ++
    codes "face 1 1 2147483648 2147483648\n" ++
    codes "face 2 2 0 2147483648\n" ++
    codes "face 2 2 2147483648 2147483648\n" ++
    codes "cell 1 1 0 0 2147483648 0 2147483648 2147483648 0 2147483648\n" ++
    codes "cell 1 1 2147483648 0 4294967296 0 4294967296 2147483648 2147483648 2147483648\n" ++
    codes "cell 2 2 0 0 2147483648 0 2147483648 2147483648 0 2147483648\n" ++
    codes "cell 2 2 2147483648 0 4294967296 0 4294967296 2147483648 2147483648 2147483648\n" ++
    codes "cell 1 1 0 2147483648 2147483648 2147483648 2147483648 4294967296 0 4294967296\n" ++
    codes "cell 1 1 2147483648 2147483648 4294967296 2147483648 4294967296 4294967296 2147483648 4294967296\n" ++
    codes "cell 2 2 0 2147483648 2147483648 2147483648 2147483648 4294967296 0 4294967296\n" ++
    codes "cell 2 2 2147483648 2147483648 4294967296 2147483648 4294967296 4294967296 2147483648 4294967296\n"
unfolding digits
strip_doubled = refl

-- The same by shares: the second half of the south edge has three quarters of them, and the north edge has none.
strip_shared : map_text strip strip_layout (Some (1000 ∷ 0 ∷ 0 ∷ 0 ∷ 0 ∷ 3000 ∷ 0 ∷ 0 ∷ []))
    (lengths_in (3 ∷ 3 ∷ 1 ∷ 1 ∷ [])) ≡
    codes "quadq map 1\n" ++
    codes "vertices 8 faces 3\n" ++
    codes "vertex 1\n" ++
    codes "vertex 4\n" ++
    codes "vertex 5\n" ++
    codes "vertex 8\n" ++
    codes "share 3 4 477218588\n" ++
    codes "share 3 4 2386092942\n" ++
    codes "share 8 6 2863311530\n" ++
    codes "share 6 5 1431655765\n" ++
    codes "cell 1 1 0 0 4772185884 0 2863311531 4294967296 0 4294967296\n" ++
    codes "cell 2 2 477218588 0 2386092942 0 1431655766 4294967296 -1431655765 4294967296\n" ++
    codes "cell 2 2 2386092942 0 4294967296 0 4294967296 4294967296 1431655766 4294967296\n"
unfolding digits
strip_shared = refl
