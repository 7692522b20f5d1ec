-- A cut beside marked lines, and where they break, as the code has them.
use Rattle.std.specs.Prelude.{◌≡◌, ◌≢◌, ℕ, Bool, true, List, map, Some}
use Rattle.def_mesh.specs.Faces.{Faces}
use Rattle.def_mesh.specs.Darts.{from_of, prev_of, twin_of}
use Rattle.def_mesh.specs.Manifold.{IsManifold}
use Rattle.def_mesh.specs.Vertices.{all_vertices}
use Rattle.def_cut.specs.FullCut.{is_on}
use Rattle.def_feature.specs.Beside.{IsCutBeside}
use Rattle.def_feature.specs.Marks.{AreMarks, is_break}

pub record IsBeside (faces : Faces) (marks breaks cut : List Bool) : Type 0 where
  pub manifold : IsManifold faces
  pub lines : AreMarks faces marks
  pub broken : breaks ≡ map (is_break faces marks) (all_vertices faces)
  pub keeps : IsCutBeside faces marks cut

-- Where lines break at the end s of an arc, the edge opposite to s is cut, and is not the other end.
abbrev pub IsEndOpen : (faces : Faces) (breaks cut : List Bool) (s t : ℕ) → Type 0
IsEndOpen faces breaks cut s t = is_on breaks (from_of faces s) ≡ true → (a b : ℕ)
    → twin_of faces (prev_of s) ≡ Some a → twin_of faces (prev_of a) ≡ Some b → (is_on cut b ≡ true) × (b ≢ t)
