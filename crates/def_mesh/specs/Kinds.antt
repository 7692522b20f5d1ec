-- The kinds of vertices, by counting faces.
use Rattle.std.specs.Prelude.{ℕ, Bool, cond, not, ◌&&◌, ◌||◌, ◌==◌, nat_lt, is_some}
use Rattle.std.specs.List.{list_all}
use Rattle.def_mesh.specs.Faces.{Faces}
use Rattle.def_mesh.specs.Darts.{all_darts, from_of, to_of, twin_of}
use Rattle.def_mesh.specs.Vertices.{faces_at}
use Rattle.def_mesh.specs.declared.Kind.{Kind}
use Rattle.def_mesh.specs.declared.Kind.TheVariants.{Regular, Singular, Corner, Reflex}

-- Whether v is an end of d.
abbrev pub is_end : (faces : Faces) (v d : ℕ) → Bool
is_end faces v d = (from_of faces d == v) || (to_of faces d == v)

-- Whether v is inner: each edge at it has two darts. All others are boundary vertices.
abbrev pub is_inner : (faces : Faces) (v : ℕ) → Bool
is_inner faces v = list_all (λ d. not (is_end faces v d) || is_some (twin_of faces d)) (all_darts faces)

-- An inner vertex is regular with 4 faces, a boundary vertex with 2.
abbrev pub is_regular : (faces : Faces) (v : ℕ) → Bool
is_regular faces v = faces_at faces v == cond (is_inner faces v) 4 2

-- Any other inner vertex is singular.
abbrev pub is_singular : (faces : Faces) (v : ℕ) → Bool
is_singular faces v = is_inner faces v && not (is_regular faces v)

-- A boundary vertex with one face is a corner.
abbrev pub is_corner : (faces : Faces) (v : ℕ) → Bool
is_corner faces v = not (is_inner faces v) && (faces_at faces v == 1)

-- A boundary vertex with more than two faces is reflex.
abbrev pub is_reflex : (faces : Faces) (v : ℕ) → Bool
is_reflex faces v = not (is_inner faces v) && nat_lt 2 (faces_at faces v)

-- The kind of v.
abbrev pub kind_of : (faces : Faces) (v : ℕ) → Kind
kind_of faces v =
    cond (is_regular faces v) Regular (cond (is_inner faces v) Singular (cond (is_corner faces v) Corner Reflex))
