-- What `remesh` writes for a mesh is accepted behind the text of that mesh.
use Rattle.std.specs.Prelude.{◌≡◌, ◌++◌, Bool, true, Ok}
use Rattle.def_certtext.specs.Settings.{AreInRange}
use Rattle.def_flow.specs.declared.net.Settings.{Settings}
use Rattle.def_io.specs.Bytes.{Bytes}
use Rattle.def_remesh.specs.Certified.{IsShown}
use Rattle.def_remesh.specs.Checked.{IsCheckedPair}
use Rattle.def_remesh.specs.ReadAgain.{ends_line}
use Rattle.def_remesh.specs.Tasks.{remesh_task}
use Rattle.def_remesh.specs.TextLaws.{IsSolid}
use Rattle.def_text.specs.FaceSet.{FaceSet}
use Rattle.def_text.specs.Text.{soup_in}

-- A text of a mesh whose last line has its line feed, and behind it the text of a finished remesh of this mesh, as
-- accepted certificates show, are a checked pair: `check` accepts them. Head lines in the first text do not matter,
-- since the last one counts.
abbrev pub AcceptsLaw : Type 0
AcceptsLaw = (settings : Settings) (auto : Bool) (old text : Bytes) (soup : FaceSet) → AreInRange settings auto
    → soup_in old ≡ Ok soup → ends_line old ≡ true → IsSolid soup
    → IsShown (remesh_task settings auto soup.faces) soup text
    → IsCheckedPair (old ++ text)
