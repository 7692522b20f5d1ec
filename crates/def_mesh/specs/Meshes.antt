-- What a mesh of quads is: a manifold whose vertices are numbered without a gap, within the limit of size.
use Rattle.std.specs.Prelude.{ℕ, ◌≤◌, length}
use Rattle.def_mesh.specs.Faces.{Faces}
use Rattle.def_mesh.specs.Manifold.{IsManifold}
use Rattle.def_mesh.specs.Vertices.{vertex_count, UsesEach}
use Rattle.def_mesh.specs.declared.TheConstants.{MAX_FACES}

pub record IsMesh (faces : Faces) : Type 0 where
  pub manifold : IsManifold faces
  pub few : length faces ≤ MAX_FACES
  pub used : UsesEach (vertex_count faces) faces
