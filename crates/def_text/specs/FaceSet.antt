-- Positions, faces over them and the numbers that the file gave the vertices.
use Rattle.std.specs.Prelude.{◌≡◌, ℕ, IsTrue, List, length}
use Rattle.std.specs.List.Sorted.{IsStrictlyIncreasing}
use Rattle.def_mesh.specs.Faces.{Faces}
use Rattle.def_mesh.specs.Vertices.{names_below, UsesEach}
use Rattle.def_text.specs.Types.{Positions}

-- A soup: each face names vertices by their numbers from 0, each name is the number in the file, from 1.
pub record FaceSet : Type 0 where
  pub pos : Positions
  pub faces : Faces
  pub names : List ℕ

-- What a soup keeps.
pub record IsSoup (s : FaceSet) : Type 0 where
  pub in_range : IsTrue (names_below (length s.pos) s.faces)
  pub used : UsesEach (length s.pos) s.faces
  pub named : length s.names ≡ length s.pos
  pub increasing : IsStrictlyIncreasing s.names
