-- Why the bytes that a command read have no mesh.
use Rattle.std.specs.Prelude.{◌≡◌, ◌≢◌, Ok, Err, ⊤}
use Rattle.def_io.specs.Bytes.{Bytes}
use Rattle.def_text.specs.FaceSet.{FaceSet}
use Rattle.def_text.specs.Text.{soup_in}
use Rattle.def_text.specs.declared.refusal.ObjFail.TheVariants as obj
use Rattle.def_text.specs.declared.refusal.SoupFail.TheVariants as soup
use Rattle.qm_top.specs.Refusals.{IsNoMeshOf}
use Rattle.qm_top.specs.declared.named.NamedPlace.{NamedPlace}
use Rattle.qm_top.specs.declared.refusal.Refusal.{Refusal}
use Rattle.qm_top.specs.declared.refusal.Refusal.TheVariants.{Soup, NotManifold}
use Rattle.qm_top.specs.declared.refusal.Refusal.TheVariants as refusals

-- The faces of a text are no manifold, as this says.
pub record HasNoMesh (bytes : Bytes) (named : NamedPlace) : Type 0 where
  pub soup : FaceSet
  pub said : soup_in bytes ≡ Ok soup
  pub why : IsNoMeshOf soup (NotManifold named)

-- Why bytes have no mesh, where there is memory.
abbrev pub IsMeshless : (bytes : Bytes) (refusal : Refusal) → Type 0
IsMeshless bytes (Soup soup.Memory) = ⊤
IsMeshless bytes (Soup (soup.Obj fail)) = (soup_in bytes ≡ Err fail) × (fail ≢ obj.Memory)
IsMeshless bytes (NotManifold named) = HasNoMesh bytes named
IsMeshless bytes refusals.Memory = ⊤
IsMeshless bytes _ = ⊥
