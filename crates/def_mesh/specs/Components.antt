-- Components, rings with their seeds, the darts where riders start, and Euler's count.
use Rattle.std.specs.Prelude.{
  ℕ,
  zero,
  suc,
  ◌*◌,
  ◌/◌,
  ℤ,
  pos,
  ◌+ℤ◌,
  ◌-ℤ◌,
  Bool,
  true,
  false,
  ◌&&◌,
  ◌||◌,
  ◌==◌,
  nat_lt,
  List,
  [],
  ◌∷◌,
  map,
  filter,
  length,
  slice_index_or,
  is_some,
  Option,
  Some,
  None,
}
use Rattle.std.specs.List.{range_with_len, list_any, list_all, position_or_len}
use Rattle.def_mesh.specs.Faces.{Faces, all_faces}
use Rattle.def_mesh.specs.Darts.{all_darts, from_of, is_reverse, twin_of}
use Rattle.def_mesh.specs.Vertices.{is_used, all_vertices}
use Rattle.def_mesh.specs.Kinds.{is_regular, is_singular, is_reflex}

-- A mark for each face.
abbrev pub Marks : Type 0
Marks = List Bool

-- Whether a dart of face f has its twin in face g.
abbrev pub share_edge : (faces : Faces) (f g : ℕ) → Bool
share_edge faces f g =
    list_any (λ d. list_any (is_reverse faces d) (range_with_len (4 * g) 4)) (range_with_len (4 * f) 4)

-- Whether face f is marked.
abbrev pub is_marked : (marks : Marks) (f : ℕ) → Bool
is_marked marks f = slice_index_or marks f false

-- The marked faces, and those that share an edge with one of them.
abbrev pub spread : (faces : Faces) (marks : Marks) → Marks
spread faces marks =
    map (λ g. is_marked marks g || list_any (λ f. is_marked marks f && share_edge faces f g) (all_faces faces))
    (all_faces faces)

-- The faces at most so many shared edges away from f.
abbrev pub within : (faces : Faces) (f edges : ℕ) → Marks
within faces f zero = map (λ g. g == f) (all_faces faces)
within faces f (suc n) = spread faces (within faces f n)

-- The component of f: a chain of different faces has at most all of them.
abbrev pub component_of : (faces : Faces) (f : ℕ) → Marks
component_of faces f = within faces f (length faces)

-- The least face of f's component.
abbrev pub least_face : (faces : Faces) (f : ℕ) → ℕ
least_face faces f = position_or_len (λ b. b) (component_of faces f)

-- The least face of each component, increasing.
abbrev pub least_faces : (faces : Faces) → List ℕ
least_faces faces = filter (λ f. least_face faces f == f) (all_faces faces)

-- How many of these faces are less than f.
abbrev pub place_among : (firsts : List ℕ) (f : ℕ) → ℕ
place_among firsts f = length (filter (λ g. nat_lt g f) firsts)

-- The number of each face's component: components are numbered by their least faces.
abbrev pub component_numbers : (faces : Faces) → List ℕ
component_numbers faces = map (λ f. place_among (least_faces faces) (least_face faces f)) (all_faces faces)

-- The vertices of the marked faces, increasing.
abbrev pub vertices_in : (faces : Faces) (marks : Marks) → List ℕ
vertices_in faces marks =
    filter (λ v. list_any (λ d. (from_of faces d == v) && is_marked marks (d / 4)) (all_darts faces))
    (all_vertices faces)

-- Whether all vertices of a component are regular.
abbrev pub is_ring : (faces : Faces) (marks : Marks) → Bool
is_ring faces marks = list_all (is_regular faces) (vertices_in faces marks)

-- Whether v is the first of an increasing list.
abbrev pub is_first : (v : ℕ) (vertices : List ℕ) → Bool
is_first v [] = false
is_first v (u ∷ us) = v == u

-- Whether v is the seed of the ring that these marks are: its least vertex.
abbrev pub is_seed_in : (faces : Faces) (v : ℕ) (marks : Marks) → Bool
is_seed_in faces v marks = is_first v (vertices_in faces marks) && is_ring faces marks

-- The seeds of all rings, increasing.
abbrev pub seeds : (faces : Faces) → List ℕ
seeds faces =
    filter (λ v. list_any (λ f. is_seed_in faces v (component_of faces f)) (least_faces faces)) (all_vertices faces)

-- Whether a rider starts along d, with these seeds: from each singular vertex by every dart, from reflex vertices
-- and seeds by those with a twin.
abbrev pub is_start : (faces : Faces) (ring_seeds : List ℕ) (d : ℕ) → Bool
is_start faces ring_seeds d = is_singular faces (from_of faces d)
    || (is_some (twin_of faces d)
    && (is_reflex faces (from_of faces d) || list_any (λ v. v == from_of faces d) ring_seeds))

-- The darts along which riders start, increasing.
abbrev pub start_darts : (faces : Faces) → List ℕ
start_darts faces = filter (is_start faces (seeds faces)) (all_darts faces)

-- Whether d is the lesser dart of its edge, or the only one.
abbrev pub is_lesser : (d : ℕ) (twin : Option ℕ) → Bool
is_lesser d None = true
is_lesser d (Some e) = nat_lt d e

-- How many edges there are.
abbrev pub edge_count : (faces : Faces) → ℕ
edge_count faces = length (filter (λ d. is_lesser d (twin_of faces d)) (all_darts faces))

-- How many vertices are used.
abbrev pub used_count : (faces : Faces) → ℕ
used_count faces = length (filter (is_used faces) (all_vertices faces))

-- Euler's characteristic: used vertices less edges plus faces.
abbrev pub euler : (faces : Faces) → ℤ
euler faces = (pos (used_count faces) -ℤ pos (edge_count faces)) +ℤ pos (length faces)
