-- The table of components while they are flooded one after another.
use Rattle.std.specs.Prelude.{◌≡◌, ◌≢◌, ◌⊎◌, ℕ, ◌+◌, ◌*◌, ◌/◌, ◌<◌, ◌≤◌, ◌==◌, true, cond, List, [], ◌∷◌, ◌++◌, length}
use Rattle.std.specs.Prelude.{slice_index, slice_set, Option, Some, None}
use Rattle.std.specs.List.{list_any, count_by}
use Rattle.def_mesh.specs.Faces.{Faces}
use Rattle.def_mesh.specs.Darts.{twin_of}
use Rattle.def_mesh.specs.Components.{share_edge, is_marked, component_of, least_face, least_faces, place_among}
use Rattle.qm_sing.specs.declared.flooding.TheConstants.{NONE}

-- Face g has its number.
abbrev pub IsNumbered : (numbers : List ℕ) (g : ℕ) → Type 0
IsNumbered numbers g = slice_index numbers g ≢ NONE

-- Face g waits.
abbrev pub Waits : (waiting : List ℕ) (g : ℕ) → Type 0
Waits waiting g = list_any (λ f. f == g) waiting ≡ true

-- With a number, a face has one on each side.
abbrev pub IsClosed : (faces : Faces) (numbers : List ℕ) → Type 0
IsClosed faces numbers = (g h : ℕ) → g < length faces → h < length faces → IsNumbered numbers g
    → share_edge faces g h ≡ true → IsNumbered numbers h

-- What is still to do: it gets less with each face that is taken.
abbrev pub to_do : (numbers waiting : List ℕ) → ℕ
to_do numbers waiting = 2 * count_by (λ n. n == NONE) numbers + length waiting

-- The tables after the face behind an edge has been looked at.
abbrev pub numbers_with : (twin : Option ℕ) (component : ℕ) (numbers : List ℕ) → List ℕ
numbers_with None component numbers = numbers
numbers_with (Some e) component numbers =
    cond (slice_index numbers (e / 4) == NONE) (slice_set numbers (e / 4) component) numbers

abbrev pub waiting_with : (twin : Option ℕ) (numbers waiting : List ℕ) → List ℕ
waiting_with None numbers waiting = waiting
waiting_with (Some e) numbers waiting = cond (slice_index numbers (e / 4) == NONE) (waiting ++ (e / 4) ∷ []) waiting

-- Some sides of f have been looked at: what is new has this number and waits.
pub record IsSpread (faces : Faces) (f component sides : ℕ) (old new waiting more : List ℕ) : Type 0 where
  pub long : length new ≡ length faces
  pub kept : (g : ℕ) → g < length faces → IsNumbered old g → slice_index new g ≡ slice_index old g
  pub fresh : (g : ℕ) → g < length faces → IsNumbered new g → slice_index old g ≡ NONE
      → (slice_index new g ≡ component) × (share_edge faces f g ≡ true) × Waits more g
  pub near : (d e : ℕ) → 4 * f ≤ d → d < 4 * f + sides → twin_of faces d ≡ Some e → IsNumbered new (e / 4)
  pub waits : (g : ℕ) → Waits waiting g → Waits more g
  pub come : (g : ℕ) → Waits more g → Waits waiting g ⊎ ((slice_index old g ≡ NONE) × (slice_index new g ≡ component))
  pub low : (g : ℕ) → Waits more g → g < length faces
  pub less : to_do new more ≤ to_do old waiting

-- The flood from `first` so far: a new number is this one and stands at a face of the component, and where that face
-- does not wait, it has neighbours with numbers alone.
pub record IsFlood (faces : Faces) (first component : ℕ) (old numbers waiting : List ℕ) : Type 0 where
  pub long : length numbers ≡ length faces
  pub kept : (g : ℕ) → g < length faces → IsNumbered old g → slice_index numbers g ≡ slice_index old g
  pub begun : slice_index numbers first ≡ component
  pub fresh : (g : ℕ) → g < length faces → IsNumbered numbers g → slice_index old g ≡ NONE
      → (slice_index numbers g ≡ component) × (is_marked (component_of faces first) g ≡ true)
  pub done : (g : ℕ) → g < length faces → IsNumbered numbers g → slice_index old g ≡ NONE
      → Waits waiting g ⊎ ((h : ℕ) → h < length faces → share_edge faces g h ≡ true → IsNumbered numbers h)
  pub low : (g : ℕ) → Waits waiting g
      → (g < length faces) × (slice_index numbers g ≡ component) × (slice_index old g ≡ NONE)

-- The whole component of `first` has its number.
pub record IsFlooded (faces : Faces) (first component : ℕ) (old numbers : List ℕ) : Type 0 where
  pub long : length numbers ≡ length faces
  pub kept : (g : ℕ) → g < length faces → IsNumbered old g → slice_index numbers g ≡ slice_index old g
  pub fresh : (g : ℕ) → g < length faces → IsNumbered numbers g → slice_index old g ≡ NONE
      → (slice_index numbers g ≡ component) × (is_marked (component_of faces first) g ≡ true)
  pub all : (g : ℕ) → g < length faces → is_marked (component_of faces first) g ≡ true → IsNumbered numbers g

-- The components whose least face is below f have their numbers, and no other.
pub record IsNumbering (faces : Faces) (f components : ℕ) (numbers : List ℕ) : Type 0 where
  pub long : length numbers ≡ length faces
  pub below : (g : ℕ) → g < length faces → IsNumbered numbers g
      → (least_face faces g < f) × (slice_index numbers g ≡ place_among (least_faces faces) (least_face faces g))
  pub all : (g : ℕ) → g < length faces → least_face faces g < f → IsNumbered numbers g
  pub many : components ≡ place_among (least_faces faces) f
