-- What is kept of a text whose `#w` lines are read, line by line.
use Rattle.std.specs.Prelude.{◌≡◌, ℕ, ◌-◌, ◌^◌, ◌<◌, ◌≤◌, ◌==◌, min, List, [], length, slice_index_or, Some}
use Rattle.std.specs.List.{slice_split}
use Rattle.def_fit.specs.WishLines.{said_fails, wish_or, wished_by, wishes_said, Wished}
use Rattle.def_fit.specs.declared.fit.TheConstants.{MAX_WISH}
use Rattle.def_io.specs.Bytes.{Bytes}
use Rattle.def_mesh.specs.Darts.{darts}
use Rattle.def_mesh.specs.Faces.{Faces}
use Rattle.def_text.specs.FaceSet.{FaceSet}
use Rattle.def_text.specs.Types.{Words}
use Rattle.def_text.specs.declared.letters.TheConstants.{SPACE}
use Rattle.def_text.specs.declared.limits.TheConstants.{MAX_V_LINES}
use Rattle.qm_marks.specs.Keys.{AreEnds}
use Rattle.qm_marks.specs.declared.ends.TheConstants.{FEW}
use Rattle.qm_marks.specs.declared.said.Said.{Said}

-- The words of a text that are divided by one blank each.
abbrev pub pieces_of : (text : Bytes) → Words
pieces_of text = slice_split (λ byte. byte == SPACE) text

-- The words wish, and this is what they say, as far as the types go.
pub record IsSaid (words : Words) (said : Said) : Type 0 where
  pub wished : Wished
  pub told : wished_by words ≡ Some wished
  pub u : said.u ≡ min wished.u (2 ^ 64 - 1)
  pub v : said.v ≡ min wished.v (2 ^ 64 - 1)
  pub wish : said.wish ≡ min wished.wish (2 ^ 64 - 1)

-- A soup with its mesh, and the table in which darts are found by their ends.
pub record AreKeyed (soup : FaceSet) (mesh : Faces) (keys : List ℕ) : Type 0 where
  pub same : mesh ≡ soup.faces
  pub ends : AreEnds mesh FEW keys
  pub few : length soup.names ≤ MAX_V_LINES

-- The words of one line more are taken.
pub record TakesWish (soup : FaceSet) (all number : ℕ) (words : Words) (old new : List ℕ) : Type 0 where
  pub accepted : said_fails soup all number (wished_by words) ≡ []
  pub wishes : (d : ℕ) → d < darts soup.faces → slice_index_or new d 0
      ≡ wish_or soup.faces d (slice_index_or old d 0) (wishes_said soup.names (wished_by words))
  pub small : (d : ℕ) → d < darts soup.faces → slice_index_or old d 0 ≤ MAX_WISH → slice_index_or new d 0 ≤ MAX_WISH
