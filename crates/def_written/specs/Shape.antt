-- What a new mesh keeps of an old one.
use Rattle.std.specs.Prelude.{◌≡◌, ℕ, ◌<◌, false}
use Rattle.def_mesh.specs.Faces.{Faces}
use Rattle.def_mesh.specs.Manifold.{IsManifold}
use Rattle.def_mesh.specs.Vertices.{faces_at, vertex_count}
use Rattle.def_mesh.specs.Kinds.{is_regular, kind_of}
use Rattle.def_mesh.specs.Components.{euler}

-- Node n of the gluing stands for this vertex, old and new.
pub record IsKeptNode (old new : Faces) (vertex : ℕ → ℕ) (n : ℕ) : Type 0 where
  pub kind : kind_of new n ≡ kind_of old (vertex n)
  pub faces : faces_at new n ≡ faces_at old (vertex n)

-- Two manifolds have the same shape: their Euler numbers are equal, each irregular vertex of the old one is a node,
-- whose new vertex has the same kind and the same number of faces, and every other new vertex is regular.
pub record KeepsShape (old new : Faces) (nodes : ℕ) (vertex : ℕ → ℕ) : Type 0 where
  pub old_manifold : IsManifold old
  pub new_manifold : IsManifold new
  pub euler : euler new ≡ euler old
  pub irregular : (v : ℕ) → v < vertex_count old → is_regular old v ≡ false
      → (n : ℕ) × (n < nodes) × (vertex n ≡ v) × IsKeptNode old new vertex n
  pub regular : (v : ℕ) → v < vertex_count new → is_regular new v ≡ false
      → (v < nodes) × (is_regular old (vertex v) ≡ false)
