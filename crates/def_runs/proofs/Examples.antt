-- The followers of darts in a quad and in a torus of sixteen faces.
use Rattle.std.proofs.Common.{◌≡◌, true, false, [], ◌∷◌, map, Some, None, refl}
use Rattle.{def_mesh.specs.Faces.Faces, def_runs.specs.Runs.follower, def_runs.specs.Runs.is_closed}

abbrev quad : Faces
quad = (0 ∷ 1 ∷ 2 ∷ 3 ∷ []) ∷ []

abbrev torus : Faces
torus =
    (0 ∷ 1 ∷ 5 ∷ 4 ∷ []) ∷ (1 ∷ 2 ∷ 6 ∷ 5 ∷ []) ∷ (2 ∷ 3 ∷ 7 ∷ 6 ∷ []) ∷ (3 ∷ 0 ∷ 4 ∷ 7 ∷ []) ∷
    (4 ∷ 5 ∷ 9 ∷ 8 ∷ []) ∷ (5 ∷ 6 ∷ 10 ∷ 9 ∷ []) ∷ (6 ∷ 7 ∷ 11 ∷ 10 ∷ []) ∷ (7 ∷ 4 ∷ 8 ∷ 11 ∷ []) ∷
    (8 ∷ 9 ∷ 13 ∷ 12 ∷ []) ∷ (9 ∷ 10 ∷ 14 ∷ 13 ∷ []) ∷ (10 ∷ 11 ∷ 15 ∷ 14 ∷ []) ∷ (11 ∷ 8 ∷ 12 ∷ 15 ∷ []) ∷
    (12 ∷ 13 ∷ 1 ∷ 0 ∷ []) ∷ (13 ∷ 14 ∷ 2 ∷ 1 ∷ []) ∷ (14 ∷ 15 ∷ 3 ∷ 2 ∷ []) ∷ (15 ∷ 12 ∷ 0 ∷ 3 ∷ []) ∷ []

-- Each run of a quad has one dart.
quad_ends : map (follower quad) (0 ∷ 1 ∷ 2 ∷ 3 ∷ []) ≡ None ∷ None ∷ None ∷ None ∷ []
quad_ends = refl

-- A run goes round the torus.
torus_row : map (follower torus) (0 ∷ 4 ∷ 8 ∷ 12 ∷ []) ≡ Some 4 ∷ Some 8 ∷ Some 12 ∷ Some 0 ∷ []
torus_row = refl

torus_closed : is_closed torus (0 ∷ 4 ∷ 8 ∷ 12 ∷ []) ≡ true
torus_closed = refl

quad_open : is_closed quad (2 ∷ []) ≡ false
quad_open = refl
