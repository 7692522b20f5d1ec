-- What a mesh is for riders.
use Rattle.std.specs.Prelude.{◌≡◌, map, length}
use Rattle.def_mesh.specs.Faces.{Faces}
use Rattle.def_mesh.specs.Vertices.{all_vertices}
use Rattle.def_mesh.specs.Kinds.{kind_of}
use Rattle.def_mesh.specs.Components.{component_numbers, least_faces, start_darts, seeds}
use Rattle.def_mesh.specs.declared.Starts.{Starts}

-- The kinds, components, start darts and seeds of these faces.
pub record AreSources (faces : Faces) (found : Starts) : Type 0 where
  pub kinds : found.kinds.items ≡ map (kind_of faces) (all_vertices faces)
  pub component : found.component.items ≡ component_numbers faces
  pub components : found.components ≡ length (least_faces faces)
  pub starts : found.starts.items ≡ start_darts faces
  pub seeds_are : found.seeds.items ≡ seeds faces
