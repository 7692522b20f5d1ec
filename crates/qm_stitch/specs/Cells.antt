-- The cell of a face.
use Rattle.std.specs.Prelude.{◌≡◌, ℕ, ◌/◌, ◌%◌, ◌<◌}
use Rattle.def_layout.specs.Gluings.{Gluing}
use Rattle.def_layout.specs.Lengths.{Lengths, wide, high}
use Rattle.def_written.specs.NewFaces.{cell_in, patch_of}
use Rattle.qm_stitch.specs.declared.face.Cell.{Cell}

pub record IsCellOf (gluing : Gluing) (lengths : Lengths) (f : ℕ) (cell : Cell) : Type 0 where
  pub patch : cell.patch ≡ patch_of gluing lengths f
  pub column : cell.i ≡ cell_in gluing lengths f % wide gluing lengths (patch_of gluing lengths f)
  pub row : cell.j ≡ cell_in gluing lengths f / wide gluing lengths (patch_of gluing lengths f)
  pub patch_low : cell.patch < gluing.patches
  pub column_low : cell.i < wide gluing lengths cell.patch
  pub row_low : cell.j < high gluing lengths cell.patch
