-- What `blocks` means. It refuses what `refine` refuses.
use Rattle.std.specs.Prelude.{ℕ, ◌≤◌}
use Rattle.def_blocks.specs.Blocked.{IsBlockText}
use Rattle.def_io.specs.Bytes.{Bytes}
use Rattle.def_layout.specs.Layouts.{Layout}
use Rattle.def_remesh.specs.Refined.{refined_faces}
use Rattle.def_remesh.specs.declared.limits.TheConstants.{MAX_NEW_FACES}
use Rattle.def_text.specs.FaceSet.{FaceSet}
use Rattle.def_run.specs.Mesh.{IsMeshText}
use Rattle.def_run.specs.Remesh.{IsTracedLayout}

-- A text of the blocks of a mesh: a layout cuts the mesh into rectangular grids of its motorcycle graph, and the text
-- is that of these grids, with `by` times their old lengths and with their links.
pub record IsBlocked (by : ℕ) (soup : FaceSet) (text : Bytes) : Type 0 where
  pub layout : Layout
  pub cut : IsTracedLayout soup.faces layout
  pub fits : refined_faces by layout ≤ MAX_NEW_FACES
  pub blocks : IsBlockText by soup layout text

-- For these bytes it writes this text: that of the blocks of their mesh.
pub record WritesBlocks (by : ℕ) (bytes text : Bytes) : Type 0 where
  pub soup : FaceSet
  pub mesh : IsMeshText bytes soup
  pub blocked : IsBlocked by soup text
