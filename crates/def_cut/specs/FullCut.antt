-- A full cut of a list of faces, given as a mark for each dart.
use Rattle.std.specs.Prelude.{◌≡◌, ◌⊎◌, ℕ, zero, suc, ◌<◌, ◌/◌, Bool, true, false, List, length, slice_index_or, Some}
use Rattle.std.specs.Prelude.{None}
use Rattle.def_mesh.specs.Faces.{Faces}
use Rattle.def_mesh.specs.Darts.{darts, from_of, to_of, next_of, prev_of, twin_of, straight_of}
use Rattle.def_mesh.specs.Kinds.{is_regular}

-- Whether dart d is marked.
abbrev pub is_on : (marks : List Bool) (d : ℕ) → Bool
is_on marks d = slice_index_or marks d false

-- n steps lead from face f to face g, each over an edge that is not marked.
abbrev pub IsChain : (faces : Faces) (marks : List Bool) (f g n : ℕ) → Type 0
IsChain faces marks f g zero = f ≡ g
IsChain faces marks f g (suc n) =
    (d : ℕ) × (e : ℕ) × IsChain faces marks f (d / 4) n × (d < darts faces) × (is_on marks d ≡ false)
    × (twin_of faces d ≡ Some e) × (g ≡ e / 4)

-- The marked edges are a full cut.
pub record IsFullCut (faces : Faces) (marks : List Bool) : Type 0 where
  -- There is a mark for each dart, and twins are marked alike.
  pub long : length marks ≡ darts faces
  pub alike : (d e : ℕ) → d < darts faces → twin_of faces d ≡ Some e → is_on marks e ≡ is_on marks d
  -- Every boundary edge is in the set.
  pub boundary : (d : ℕ) → d < darts faces → twin_of faces d ≡ None → is_on marks d ≡ true
  -- After a dart of the set comes one of the set, along its face or straight on.
  pub gaps : (d : ℕ) → d < darts faces → is_on marks d ≡ true
      → (is_on marks (next_of d) ≡ true) ⊎ ((e : ℕ) × (straight_of faces d ≡ Some e) × (is_on marks e ≡ true))
  -- Each irregular vertex is an end of an edge of the set.
  pub irregular : (d : ℕ) → d < darts faces → is_regular faces (from_of faces d) ≡ false
      → (e : ℕ) × (e < darts faces) × (is_on marks e ≡ true)
      × ((from_of faces e ≡ from_of faces d) ⊎ (to_of faces e ≡ from_of faces d))
  -- Each class of faces that are joined over other edges has a corner.
  pub corner : (f : ℕ) → f < length faces
      → (d : ℕ) × (n : ℕ) × IsChain faces marks f (d / 4) n
      × (d < darts faces) × (is_on marks d ≡ true) × (is_on marks (prev_of d) ≡ true)
