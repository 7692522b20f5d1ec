-- What `tidy` means.
use Rattle.std.specs.Prelude.{◌≡◌}
use Rattle.def_io.specs.Bytes.{Bytes}
use Rattle.def_text.specs.Canonical.{canonical_text}
use Rattle.def_text.specs.FaceSet.{FaceSet}
use Rattle.def_run.specs.Mesh.{IsMeshText, IsNoMesh}
use Rattle.def_run.specs.declared.answer.Answer.{Answer}

-- For these bytes it writes this text: the canonical text of their mesh.
pub record WritesTidied (bytes text : Bytes) : Type 0 where
  pub soup : FaceSet
  pub mesh : IsMeshText bytes soup
  pub canonical : text ≡ canonical_text soup

-- It refuses these bytes with this answer: they have no mesh.
abbrev pub RefusesToTidy : (bytes : Bytes) (answer : Answer) → Type 0
RefusesToTidy bytes answer = IsNoMesh bytes answer
