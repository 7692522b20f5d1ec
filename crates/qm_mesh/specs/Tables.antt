-- The tables that a mesh keeps beside its faces.
use Rattle.std.specs.Prelude.{◌≡◌, ℕ, ◌^◌, ◌<◌, ◌≤◌, List, [], map, length, filter, ◌==◌, slice_index_or}
use Rattle.smallvec.specs.SmallVec.{SmallVec}
use Rattle.std.specs.List.{range_with_len}
use Rattle.def_mesh.specs.Faces.{Faces}
use Rattle.def_mesh.specs.Darts.{darts, from_of}
use Rattle.def_mesh.specs.Vertices.{fan_of, faces_at, vertex_count, UsesEach}
use Rattle.def_mesh.specs.Manifold.{IsRepeatFree, HasEdgesOnce}
use Rattle.def_mesh.specs.declared.TheConstants.{MAX_FACES}
use Rattle.def_mesh.specs.Meshes.{IsMesh}
use Rattle.qm_mesh.specs.Pairs.{ArePartners}

-- The darts of each fan.
abbrev pub fan_lists : (fans : List (SmallVec ℕ)) → List (List ℕ)
fan_lists fans = map (λ (fan : SmallVec ℕ). fan.items) fans

-- The list of the fan at v.
abbrev pub fan_at : (fans : List (SmallVec ℕ)) (v : ℕ) → List ℕ
fan_at fans v = slice_index_or (fan_lists fans) v []

-- Each dart leaves a vertex below n.
abbrev pub NamesBelow : (n : ℕ) (faces : Faces) → Type 0
NamesBelow n faces = (d : ℕ) → d < darts faces → from_of faces d < n

-- Each vertex below n has a corner.
abbrev pub HasCorners : (n : ℕ) (faces : Faces) → Type 0
HasCorners n faces = (v : ℕ) → v < n → 0 < faces_at faces v

-- Few faces with four corners each, over the vertices below n, each of which has a corner.
pub record AreQuads (n : ℕ) (faces : Faces) : Type 0 where
  pub small : n < 2 ^ 32
  pub few : length faces ≤ MAX_FACES
  pub four : (f : ℕ) → f < length faces → length (slice_index_or faces f []) ≡ 4
  pub within : NamesBelow n faces
  pub used : UsesEach n faces
  pub corners : HasCorners n faces

-- The fans of the n vertices hold the first k darts.
pub record HoldDarts (faces : Faces) (n k : ℕ) (fans : List (SmallVec ℕ)) : Type 0 where
  pub long : length (fan_lists fans) ≡ n
  pub each : (v : ℕ) → v < n → fan_at fans v ≡ filter (λ d. from_of faces d == v) (range_with_len 0 k)

-- One fan for each of the n vertices.
pub record AreFans (faces : Faces) (n : ℕ) (fans : List (SmallVec ℕ)) : Type 0 where
  pub long : length (fan_lists fans) ≡ n
  pub each : (v : ℕ) → v < n → fan_at fans v ≡ fan_of faces v

-- The tables of a mesh are those of its faces.
pub record IsMeshOf (faces : Faces) (twins : List ℕ) (fans : List (SmallVec ℕ)) : Type 0 where
  pub mesh : IsMesh faces
  pub small : vertex_count faces < 2 ^ 32
  pub partners : ArePartners faces twins
  pub each_fan : AreFans faces (vertex_count faces) fans

-- Faces of which no vertex below the number of fans is unused, with the tables of their fans and partners.
pub record HasTables (faces : Faces) (fans : List (SmallVec ℕ)) (twins : List ℕ) : Type 0 where
  pub few : length faces ≤ MAX_FACES
  pub repeat_free : IsRepeatFree faces
  pub once : HasEdgesOnce faces
  pub within : NamesBelow (length fans) faces
  pub used : HasCorners (length fans) faces
  pub small : length fans < 2 ^ 32
  pub each_fan : AreFans faces (length fans) fans
  pub partners : ArePartners faces twins
