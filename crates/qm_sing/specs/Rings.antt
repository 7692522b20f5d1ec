-- Of each component, whether all its vertices are regular, and the least of them, while darts are taken in order.
use Rattle.std.specs.Prelude.{◌≡◌, ◌⊎◌, ℕ, ◌/◌, ◌<◌, ◌≤◌, Bool, true, false, List, length, slice_index, slice_index_or}
use Rattle.std.specs.List.{list_any}
use Rattle.def_mesh.specs.Faces.{Faces}
use Rattle.def_mesh.specs.Darts.{from_of}
use Rattle.def_mesh.specs.Kinds.{is_regular}
use Rattle.def_mesh.specs.Components.{component_of, component_numbers, least_faces, is_seed_in}
use Rattle.def_mesh.specs.declared.Kind.{Kind}
use Rattle.def_mesh.specs.declared.Kind.TheVariants.{Regular, Singular, Corner, Reflex}
use Rattle.qm_sing.specs.declared.flooding.TheConstants.{NONE}

-- What a kind says.
abbrev pub is_regular_kind : (kind : Kind) → Bool
is_regular_kind Regular = true
is_regular_kind Singular = false
is_regular_kind Corner = false
is_regular_kind Reflex = false

abbrev pub is_singular_kind : (kind : Kind) → Bool
is_singular_kind Regular = false
is_singular_kind Singular = true
is_singular_kind Corner = false
is_singular_kind Reflex = false

abbrev pub is_reflex_kind : (kind : Kind) → Bool
is_reflex_kind Regular = false
is_reflex_kind Singular = false
is_reflex_kind Corner = false
is_reflex_kind Reflex = true

-- The number of the component of dart d.
abbrev pub number_of : (faces : Faces) (d : ℕ) → ℕ
number_of faces d = slice_index (component_numbers faces) (d / 4)

-- Whether v is the seed of some ring.
abbrev pub is_seed : (faces : Faces) (v : ℕ) → Bool
is_seed faces v = list_any (λ f. is_seed_in faces v (component_of faces f)) (least_faces faces)

-- The tables after the darts below `top`.
pub record AreRings (faces : Faces) (top : ℕ) (regular : List Bool) (least : List ℕ) : Type 0 where
  pub regular_long : length regular ≡ length (least_faces faces)
  pub least_long : length least ≡ length (least_faces faces)
  pub on : (d : ℕ) → d < top → slice_index_or regular (number_of faces d) false ≡ true
      → is_regular faces (from_of faces d) ≡ true
  pub off : (c : ℕ) → c < length regular → slice_index_or regular c false ≡ false
      → (d : ℕ) × (d < top) × (number_of faces d ≡ c) × (is_regular faces (from_of faces d) ≡ false)
  pub lowest : (d : ℕ) → d < top → slice_index least (number_of faces d) ≤ from_of faces d
  pub there : (c : ℕ) → c < length least
      → (slice_index least c ≡ NONE)
      ⊎ ((d : ℕ) × (d < top) × (number_of faces d ≡ c) × (from_of faces d ≡ slice_index least c))

-- The marks of seeds after the darts below `top`.
pub record AreSeedMarks (faces : Faces) (vertices top : ℕ) (marks : List Bool) : Type 0 where
  pub long : length marks ≡ vertices
  pub on : (v : ℕ) → slice_index_or marks v false ≡ true → is_seed faces v ≡ true
  pub all : (d : ℕ) → d < top → is_seed faces (from_of faces d) ≡ true
      → slice_index_or marks (from_of faces d) false ≡ true
