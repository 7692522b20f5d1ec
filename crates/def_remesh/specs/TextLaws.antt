-- What the text of a finished remesh tells.
use Rattle.std.specs.Prelude.{◌≡◌, ◌↔◌, ◌≤◌, ◌+◌, Ok, length, Bool, [], drop, slice_index_or}
use Rattle.def_certtext.specs.CertLines.{Certificates}
use Rattle.def_certtext.specs.Laws.{IsPrintable, TellsOnly}
use Rattle.def_certtext.specs.Reading.{Made, TellHow}
use Rattle.def_certtext.specs.Settings.{AreInRange}
use Rattle.def_flow.specs.declared.net.Settings.{Settings}
use Rattle.def_io.specs.Bytes.{Bytes}
use Rattle.def_io.specs.Lines.{lines_of}
use Rattle.def_mesh.specs.Meshes.{IsMesh}
use Rattle.def_text.specs.FaceSet.{FaceSet}
use Rattle.def_text.specs.Text.{soup_in}
use Rattle.def_text.specs.declared.limits.TheConstants.{MAX_F_LINES, MAX_V_LINES}
use Rattle.def_remesh.specs.Checked.{IsCheckedPair}
use Rattle.def_remesh.specs.ReadAgain.{finished_soup}
use Rattle.def_remesh.specs.Remeshed.{IsRemeshed}
use Rattle.def_remesh.specs.Tasks.{remesh_task}

-- How it was made, as its lines tell it.
abbrev pub made_by : (settings : Settings) (auto : Bool) (certificates : Certificates) → Made
made_by settings auto certificates = record { settings = settings; auto = auto; certificates = certificates }

-- A soup of quads whose numbers can be written, and whose faces are a mesh.
pub record IsSolid (soup : FaceSet) : Type 0 where
  pub mesh : IsMesh soup.faces
  pub printable : IsPrintable soup

-- The text of a finished remesh tells its settings and its certificates, and no others.
abbrev pub ToldLaw : Type 0
ToldLaw = (settings : Settings) (auto : Bool) (soup : FaceSet) (text : Bytes) → AreInRange settings auto → IsSolid soup
    → (is : IsRemeshed settings auto soup text) → TellsOnly text (made_by settings auto is.certificates)

-- So do the lines of a checked pair from its head line on.
abbrev pub PairLaw : Type 0
PairLaw = (bytes : Bytes) (pair : IsCheckedPair bytes) → IsSolid pair.soup → (made : Made)
    → TellHow (slice_index_or (lines_of bytes) pair.line []) (drop (pair.line + 1) (lines_of bytes)) made
    ↔ (made ≡ made_by pair.settings pair.auto pair.remeshed.certificates)

-- The mesh that a finished remesh of a soup wrote.
abbrev pub remeshed_soup : (settings : Settings) (auto : Bool) (soup : FaceSet) (text : Bytes)
    (is : IsRemeshed settings auto soup text) → FaceSet
remeshed_soup settings auto soup text is = finished_soup (remesh_task settings auto soup.faces) soup text is

-- A reader of the text has that mesh, where it has no more vertices and faces than are read.
abbrev pub ReadAgainLaw : Type 0
ReadAgainLaw =
    (settings : Settings) (auto : Bool) (soup : FaceSet) (text : Bytes) → AreInRange settings auto → IsSolid soup
    → (is : IsRemeshed settings auto soup text)
    → length (remeshed_soup settings auto soup text is).pos ≤ MAX_V_LINES
    → length (remeshed_soup settings auto soup text is).faces ≤ MAX_F_LINES
    → soup_in text ≡ Ok (remeshed_soup settings auto soup text is)
