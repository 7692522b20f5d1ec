-- The mesh that bytes have, or why they have none.
use Rattle.std.specs.Prelude.{◌≡◌, Ok, Err}
use Rattle.def_io.specs.Bytes.{Bytes}
use Rattle.def_mesh.specs.Faults.{IsFirstFault}
use Rattle.def_mesh.specs.Manifold.{IsManifold}
use Rattle.def_mesh.specs.declared.Place.{Place}
use Rattle.def_text.specs.FaceSet.{FaceSet}
use Rattle.def_text.specs.Text.{soup_in}
use Rattle.def_text.specs.declared.refusal.ObjFail.TheVariants as obj_fail
use Rattle.def_run.specs.declared.answer.Answer.{Answer}
use Rattle.def_run.specs.declared.answer.Answer.TheVariants.{Syntax, NotQuad, Range, Limit, NotManifold}

-- The bytes are a text with this soup, whose faces are a manifold.
pub record IsMeshText (bytes : Bytes) (soup : FaceSet) : Type 0 where
  pub said : soup_in bytes ≡ Ok soup
  pub manifold : IsManifold soup.faces

-- The bytes have a mesh.
pub record HasMesh (bytes : Bytes) : Type 0 where
  pub soup : FaceSet
  pub mesh : IsMeshText bytes soup

-- The bytes are a text with a soup whose faces are no manifold, first at this place.
pub record IsNoManifold (bytes : Bytes) (place : Place) : Type 0 where
  pub soup : FaceSet
  pub said : soup_in bytes ≡ Ok soup
  pub fault : IsFirstFault soup.faces place
  pub refuted : ¬ IsManifold soup.faces

-- Why bytes have no mesh: the first refusal of the text, or the first place where its faces are no manifold.
abbrev pub IsNoMesh : (bytes : Bytes) (answer : Answer) → Type 0
IsNoMesh bytes (Syntax line) = soup_in bytes ≡ Err (obj_fail.Syntax line)
IsNoMesh bytes (NotQuad line corners) = soup_in bytes ≡ Err (obj_fail.NotQuad line corners)
IsNoMesh bytes (Range line) = soup_in bytes ≡ Err (obj_fail.Range line)
IsNoMesh bytes (Limit which line) = soup_in bytes ≡ Err (obj_fail.Limit which line)
IsNoMesh bytes (NotManifold place) = IsNoManifold bytes place
IsNoMesh bytes _ = ⊥
