-- A mesh with the layout of a full cut of it, as contracts see them.
use Rattle.std.specs.Prelude.{ℕ, List, Option}
use Rattle.def_layout.specs.Layouts.{Layout}
use Rattle.def_text.specs.FaceSet.{FaceSet}

-- A soup, and the layout of its faces and a full cut of them.
pub record CutSoup : Type 0 where
  pub soup : FaceSet
  pub layout : Layout

-- The same with new lengths of the arcs, and the shares by which new points are spaced, evenly without them.
pub record Regrid : Type 0 where
  pub soup : FaceSet
  pub layout : Layout
  pub lengths : List ℕ
  pub shares : Option (List ℕ)
