-- When a text that is written is read again as the mesh that was written.
use Rattle.std.specs.Prelude.{◌≡◌, ◌≤◌, ◌==◌, Bool, true, IsTrue, Ok, [], ◌∷◌, length}
use Rattle.std.specs.List.{list_all}
use Rattle.def_certtext.specs.CertLines.{used}
use Rattle.def_io.specs.Bytes.{Bytes}
use Rattle.def_io.specs.declared.TheConstants.{LINE_FEED}
use Rattle.def_remesh.specs.NewPoints.{lengths_in}
use Rattle.def_remesh.specs.NewSoup.{spaced_soup}
use Rattle.def_remesh.specs.Remeshed.{IsFinished}
use Rattle.def_remesh.specs.Tasks.{Task}
use Rattle.def_text.specs.FaceSet.{FaceSet}
use Rattle.def_text.specs.Laws.{is_position}
use Rattle.def_text.specs.Text.{soup_in}
use Rattle.def_text.specs.declared.limits.TheConstants.{MAX_F_LINES, MAX_V_LINES}

-- The last line has its line feed, or there is no line.
abbrev pub ends_line : (bytes : Bytes) → Bool
ends_line [] = true
ends_line (byte ∷ []) = byte == LINE_FEED
ends_line (byte ∷ next ∷ bytes) = ends_line (next ∷ bytes)

-- The mesh that a finished task of a soup wrote.
abbrev pub finished_soup : (task : Task) (soup : FaceSet) (text : Bytes) (is : IsFinished task soup text) → FaceSet
finished_soup task soup text is = spaced_soup soup is.layout task.shares (lengths_in (used is.certificates).x)

-- Its lines between that mesh and the certificates.
abbrev pub lines_between : (task : Task) (soup : FaceSet) (text : Bytes) (is : IsFinished task soup text) → Bytes
lines_between task soup text is = task.between is.layout (lengths_in (used is.certificates).x)

-- A soup within the limits of the reader.
pub record IsReadable (soup : FaceSet) : Type 0 where
  pub near : IsTrue (list_all is_position soup.pos)
  pub few_vertices : length soup.pos ≤ MAX_V_LINES
  pub few_faces : length soup.faces ≤ MAX_F_LINES

-- The text is read as this soup, where it is within the limits of the reader.
abbrev pub IsReadAgain : (text : Bytes) (soup : FaceSet) → Type 0
IsReadAgain text soup = IsReadable soup → soup_in text ≡ Ok soup
