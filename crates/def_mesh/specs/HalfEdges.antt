-- Half edges without a list: what the theorems of quad meshes need to know of a manifold.
use Rattle.std.specs.Prelude.{◌≡◌, ◌≢◌, ◌⊎◌, ℕ, zero, suc, ◌<◌, Option, Some}
use Rattle.def_mesh.specs.Faces.{Faces}
use Rattle.def_mesh.specs.Darts.{darts, next_of, prev_of, from_of, twin_of}
use Rattle.def_mesh.specs.Manifold.{IsManifold}

-- Darts below `count`: the next and the previous round the face, the vertex where each begins, and its twin.
pub record HalfEdges : Type 0 where
  pub count : ℕ
  pub next : (d : ℕ) → ℕ
  pub prev : (d : ℕ) → ℕ
  pub from : (d : ℕ) → ℕ
  pub twin : (d : ℕ) → Option ℕ

-- One of d and e is the other turned by one face round the vertex that both leave.
abbrev pub AreTurned : (mesh : HalfEdges) (d e : ℕ) → Type 0
AreTurned mesh d e = (mesh.twin (mesh.prev d) ≡ Some e) ⊎ (mesh.twin (mesh.prev e) ≡ Some d)

-- So many turns lead from d to e.
abbrev pub Turns : (mesh : HalfEdges) (d e turns : ℕ) → Type 0
Turns mesh d e zero = d ≡ e
Turns mesh d e (suc n) = (c : ℕ) × Turns mesh d c n × (e < mesh.count) × AreTurned mesh c e

-- The laws of a manifold of quads.
pub record IsQuadManifold (mesh : HalfEdges) : Type 0 where
  pub next_low : (d : ℕ) → d < mesh.count → mesh.next d < mesh.count
  pub prev_low : (d : ℕ) → d < mesh.count → mesh.prev d < mesh.count
  pub prev_next : (d : ℕ) → mesh.prev (mesh.next d) ≡ d
  pub next_prev : (d : ℕ) → mesh.next (mesh.prev d) ≡ d
  pub four_sides : (d : ℕ) → mesh.next (mesh.next (mesh.next (mesh.next d))) ≡ d
  pub corners_differ : (d : ℕ) → d < mesh.count
      → (mesh.from d ≢ mesh.from (mesh.next d)) × (mesh.from d ≢ mesh.from (mesh.next (mesh.next d)))
  pub twin_low : (d e : ℕ) → d < mesh.count → mesh.twin d ≡ Some e → e < mesh.count
  pub twin_twin : (d e : ℕ) → d < mesh.count → mesh.twin d ≡ Some e → mesh.twin e ≡ Some d
  pub twin_ends : (d e : ℕ) → d < mesh.count → mesh.twin d ≡ Some e
      → (mesh.from e ≡ mesh.from (mesh.next d)) × (mesh.from (mesh.next e) ≡ mesh.from d)
  pub twin_found : (d e : ℕ) → d < mesh.count → e < mesh.count
      → mesh.from e ≡ mesh.from (mesh.next d) → mesh.from (mesh.next e) ≡ mesh.from d → mesh.twin d ≡ Some e
  pub one_fan : (d e : ℕ) → d < mesh.count → e < mesh.count → mesh.from d ≡ mesh.from e
      → (n : ℕ) × Turns mesh d e n

-- The half edges of a list of faces.
abbrev pub half_edges : (faces : Faces) → HalfEdges
half_edges faces =
    record { count = darts faces; next = next_of; prev = prev_of; from = from_of faces; twin = twin_of faces }

-- The half edges of a manifold obey the laws.
abbrev pub ManifoldLaw : Type 0
ManifoldLaw = (faces : Faces) → IsManifold faces → IsQuadManifold (half_edges faces)
