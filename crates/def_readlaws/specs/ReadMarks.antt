-- What the `l` lines of the text of a mesh mark.
use Rattle.std.specs.Prelude.{◌≡◌, Ok, Bool, List}
use Rattle.def_feature.specs.Marks.{AreMarks}
use Rattle.def_fit.specs.FitTasks.{Asides, asides_in}
use Rattle.def_fit.specs.declared.fit.Fit.{Fit as AnyFit}
use Rattle.def_io.specs.Bytes.{Bytes}
use Rattle.def_marks.specs.Lines.{marks_in}
use Rattle.def_patches.specs.Chosen.{AreKeptMarks}
use Rattle.def_run.specs.Mesh.{IsMeshText}
use Rattle.def_text.specs.FaceSet.{FaceSet}

-- Where no `l` line of the text of a mesh is refused, they mark inner edges of the mesh.
abbrev pub MarksInLaw : Type 0
MarksInLaw = (bytes : Bytes) (soup : FaceSet) (marks : List Bool) → IsMeshText bytes soup
    → marks_in bytes soup ≡ Ok marks → AreMarks soup.faces marks

-- So are those that a fit keeps.
abbrev pub AsidesInLaw : Type 0
AsidesInLaw = (fit : AnyFit) (bytes : Bytes) (soup : FaceSet) (asides : Asides) → IsMeshText bytes soup
    → asides_in fit bytes soup ≡ Ok asides → AreKeptMarks soup.faces asides.kept
