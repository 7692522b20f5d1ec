-- Darts by their ends: the table of keys in which they are found.
use Rattle.std.specs.Prelude.{◌≡◌, ◌≢◌, ℕ, ◌+◌, ◌*◌, ◌^◌, ◌<◌, ◌≤◌, Bool, true, nat_lt, List, length, slice_index_or}
use Rattle.std.specs.List.Sorted.{IsNonDecreasing}
use Rattle.def_mesh.specs.Faces.{Faces}
use Rattle.def_mesh.specs.Darts.{darts, from_of, to_of}
use Rattle.def_mesh.specs.Vertices.{faces_at}

-- The key of a dart with these ends.
abbrev pub key_of : (from to d : ℕ) → ℕ
key_of from to d = (from * 2 ^ 32 + to) * 2 ^ 32 + d

-- The key of dart d.
abbrev pub dart_key : (faces : Faces) (d : ℕ) → ℕ
dart_key faces d = key_of (from_of faces d) (to_of faces d) d

-- More than a few faces meet where d begins.
abbrev pub is_busy : (faces : Faces) (few d : ℕ) → Bool
is_busy faces few d = nat_lt few (faces_at faces (from_of faces d))

-- The keys of the darts that leave vertices with more than a few faces, in rising order.
pub record AreEnds (faces : Faces) (few : ℕ) (keys : List ℕ) : Type 0 where
  pub rising : IsNonDecreasing keys
  pub each : (k : ℕ) → k < length keys → (d : ℕ) × (d < darts faces) × (slice_index_or keys k 0 ≡ dart_key faces d)
  pub has : (d : ℕ) → d < darts faces → is_busy faces few d ≡ true
      → (k : ℕ) × (k < length keys) × (slice_index_or keys k 0 ≡ dart_key faces d)

-- A place of the least number that is not below a key, where there is one.
abbrev pub IsLeastPlace : (keys : List ℕ) (key place : ℕ) → Type 0
IsLeastPlace keys key place = (k : ℕ) → k < length keys → key ≤ slice_index_or keys k 0 → (place < length keys)
    × (key ≤ slice_index_or keys place 0) × (slice_index_or keys place 0 ≤ slice_index_or keys k 0)

-- Dart d runs from u to v.
pub record IsBetween (faces : Faces) (u v d : ℕ) : Type 0 where
  pub low : d < darts faces
  pub from : from_of faces d ≡ u
  pub to : to_of faces d ≡ v

-- No dart does.
abbrev pub IsNoneBetween : (faces : Faces) (u v : ℕ) → Type 0
IsNoneBetween faces u v = (d : ℕ) → d < darts faces → from_of faces d ≡ u → to_of faces d ≢ v
