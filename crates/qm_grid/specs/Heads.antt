-- The least corner of the class of each face, as the tables of the loops have it.
use Rattle.std.specs.Prelude.{◌≡◌, ◌≢◌, ℕ, ◌*◌, ◌/◌, ◌<◌, ◌≤◌, Bool, ◌==◌, List, length, slice_index}
use Rattle.std.specs.List.{list_any}
use Rattle.def_mesh.specs.Faces.{Faces}
use Rattle.def_mesh.specs.HalfEdges.{half_edges}
use Rattle.def_cut.specs.Cuts.{Links, IsCorner}
use Rattle.def_cut.specs.FullCut.{is_on}

-- Whether some of the cells lies in face f.
abbrev pub lies_in : (cells : List ℕ) (f : ℕ) → Bool
lies_in cells f = list_any (λ c. c / 4 == f) cells

-- The faces of darts d and e are of one class.
abbrev pub AreOfOne : (faces : Faces) (cut : List Bool) (d e : ℕ) → Type 0
AreOfOne faces cut d e = (n : ℕ) × Links (half_edges faces) (is_on cut) d e n

-- e is the least corner of the class of face f.
pub record IsHead (faces : Faces) (cut : List Bool) (f e : ℕ) : Type 0 where
  pub corner : IsCorner (half_edges faces) (is_on cut) e
  pub linked : AreOfOne faces cut (4 * f) e
  pub least : (x : ℕ) → AreOfOne faces cut (4 * f) x → IsCorner (half_edges faces) (is_on cut) x → e ≤ x

-- The classes with a corner below d have their heads; all other faces have the number of darts.
pub record AreHeadsSoFar (faces : Faces) (cut : List Bool) (d : ℕ) (heads : List ℕ) : Type 0 where
  pub long : length heads ≡ length faces
  pub right : (f : ℕ) → f < length faces → slice_index heads f ≢ length cut → IsHead faces cut f (slice_index heads f)
  pub alike : (f g : ℕ) → f < length faces → g < length faces → AreOfOne faces cut (4 * f) (4 * g)
      → slice_index heads g ≡ slice_index heads f
  pub first : (e : ℕ) → e < d → IsCorner (half_edges faces) (is_on cut) e → slice_index heads (e / 4) ≢ length cut
