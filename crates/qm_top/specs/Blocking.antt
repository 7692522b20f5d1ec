-- What `blocks` does with a mesh.
use Rattle.std.specs.Prelude.{◌≡◌, ◌≤◌, ℕ, List, map, Option, Some, None}
use Rattle.def_blocks.specs.Links.{AreLinks}
use Rattle.def_blocks.specs.declared.link.Link.{Link}
use Rattle.def_cuttext.specs.GridsText.{chosen_text, IsGridsText}
use Rattle.def_cuttext.specs.declared.chosen.Chosen.{Chosen}
use Rattle.def_io.specs.Bytes.{Bytes}
use Rattle.def_layout.specs.Arcs.{long_at}
use Rattle.def_layout.specs.Layouts.{gluing_of}
use Rattle.def_patches.specs.declared.Keep.{Keep}
use Rattle.def_patches.specs.declared.Patches.{Patches}
use Rattle.def_remesh.specs.CutSoups.{CutSoup, Regrid}
use Rattle.def_remesh.specs.NewPoints.{lengths_in, multiple_of}
use Rattle.def_remesh.specs.Refined.{refined_faces}
use Rattle.def_remesh.specs.declared.limits.TheConstants.{MAX_NEW_FACES}
use Rattle.def_text.specs.FaceSet.{FaceSet}
use Rattle.qm_blocktext.specs.declared.blocks.Blocks.{Blocks}
use Rattle.qm_top.specs.Refining.{IsRefinedMesh}

-- The links of each block.
abbrev pub links_in : (blocks : Blocks) → List (List Link)
links_in blocks = map (λ links. links.items) blocks.links.items

-- These are the blocks of these points, at this multiple of the old lengths.
pub record AreBlocksOf (chosen : Option Chosen) (by : ℕ) (new : Regrid) (blocks : Blocks) : Type 0 where
  pub told : blocks.chosen ≡ chosen
  pub parts : blocks.by ≡ by
  pub points : blocks.points ≡ new
  pub links : AreLinks (gluing_of new.layout) (multiple_of by (long_at new.layout.arcs)) (links_in blocks)

-- These are the blocks of a mesh with each edge divided in so many.
pub record AreBlocksBy (by : ℕ) (soup : FaceSet) (blocks : Blocks) : Type 0 where
  pub told : blocks.chosen ≡ None
  pub parts : blocks.by ≡ by
  pub points : IsRefinedMesh by soup blocks.points
  pub links : AreLinks (gluing_of blocks.points.layout) (multiple_of by (long_at blocks.points.layout.arcs))
      (links_in blocks)

-- These are the grids of a chosen cut.
pub record AreGridsBy (chosen : Chosen) (by : ℕ) (cut : CutSoup) (blocks : Blocks) : Type 0 where
  pub told : blocks.chosen ≡ Some chosen
  pub parts : blocks.by ≡ by
  pub same : blocks.points.soup ≡ cut.soup
  pub on : blocks.points.layout ≡ cut.layout
  pub lengths : lengths_in blocks.points.lengths ≡ multiple_of by (long_at cut.layout.arcs)
  pub fits : refined_faces by cut.layout ≤ MAX_NEW_FACES
  pub links : AreLinks (gluing_of cut.layout) (multiple_of by (long_at cut.layout.arcs)) (links_in blocks)

-- The text of the grids of a cut mesh, which are not too many faces.
pub record IsGridded (keep : Keep) (patches : Patches) (by : ℕ) (cut : CutSoup) (text : Bytes) : Type 0 where
  pub fits : refined_faces by cut.layout ≤ MAX_NEW_FACES
  pub grids : IsGridsText keep patches by cut.soup cut.layout text

-- Their text.
abbrev pub told_text : (blocks : Blocks) → Bytes
told_text blocks =
    chosen_text blocks.chosen blocks.by blocks.points.soup blocks.points.layout (lengths_in blocks.points.lengths)
    (links_in blocks)
