-- What each refusal of a face list says of it.
use Rattle.std.specs.Prelude.{⊤}
use Rattle.def_mesh.specs.Faces.{Faces}
use Rattle.def_mesh.specs.Faults.{IsFirstFault}
use Rattle.qm_mesh.specs.declared.fail.MeshFail.{MeshFail}
use Rattle.qm_mesh.specs.declared.fail.MeshFail.TheVariants.{NotManifold, Memory}

-- A refusal for a place is right where the list first fails to be a manifold there.
abbrev pub IsRefusal : (faces : Faces) (fail : MeshFail) → Type 0
IsRefusal faces (NotManifold place) = IsFirstFault faces place
IsRefusal faces Memory = ⊤
