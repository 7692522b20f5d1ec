-- What the soup of bytes that are read is, and what their mesh is.
use Rattle.std.specs.Prelude.{◌≡◌, Ok}
use Rattle.def_io.specs.Bytes.{Bytes}
use Rattle.def_mesh.specs.Meshes.{IsMesh}
use Rattle.def_remesh.specs.TextLaws.{IsSolid}
use Rattle.def_run.specs.Mesh.{IsMeshText}
use Rattle.def_text.specs.FaceSet.{FaceSet}
use Rattle.def_text.specs.Laws.{IsWritableSoup}
use Rattle.def_text.specs.Text.{soup_in}
use Rattle.def_written.specs.Laws.{AreQuads}

-- The soup of a text that is read can be written: it is a soup of quads within the limits.
abbrev pub SoupInLaw : Type 0
SoupInLaw = (bytes : Bytes) (soup : FaceSet) → soup_in bytes ≡ Ok soup → IsWritableSoup soup

-- The soup of the text of a mesh is what the laws of meshes ask for.
abbrev pub MeshTextLaw : Type 0
MeshTextLaw = (bytes : Bytes) (soup : FaceSet) → IsMeshText bytes soup
    → IsSolid soup × IsMesh soup.faces × AreQuads soup.faces
