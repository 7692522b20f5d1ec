-- What `blocks` makes of a mesh.
use Rattle.std.specs.Prelude.{◌≡◌, ℕ, List, length}
use Rattle.def_io.specs.Bytes.{Bytes}
use Rattle.def_layout.specs.Arcs.{long_at}
use Rattle.def_layout.specs.Layouts.{Layout, gluing_of}
use Rattle.def_remesh.specs.NewPoints.{multiple_of}
use Rattle.def_text.specs.FaceSet.{FaceSet}
use Rattle.def_blocks.specs.BlockTexts.{blocks_text}
use Rattle.def_blocks.specs.Laws.{AreJoined, AreMutual}
use Rattle.def_blocks.specs.Links.{AreLinks}
use Rattle.def_blocks.specs.declared.link.Link.{Link}

-- The text of the blocks of a layout with `by` times its old lengths: its links are those of the layout, each leads to
-- one that leads back, and linked points are one vertex of the new mesh.
pub record IsBlockText (by : ℕ) (old : FaceSet) (layout : Layout) (text : Bytes) : Type 0 where
  pub links : List (List Link)
  pub linked : AreLinks (gluing_of layout) (multiple_of by (long_at layout.arcs)) links
  pub back : AreMutual (length layout.patches) links
  pub joined : AreJoined (gluing_of layout) (multiple_of by (long_at layout.arcs)) links
  pub written : text ≡ blocks_text by old layout (multiple_of by (long_at layout.arcs)) links
