-- Where a list of faces first fails to be a manifold.
use Rattle.std.specs.Prelude.{◌≡◌, ℕ, ◌/◌, ◌<◌, cond, ◌==◌, List, [], ◌∷◌, length, Option, Some, None}
use Rattle.std.specs.List.{list_any}
use Rattle.def_mesh.specs.Faces.{Face, Faces, face_at}
use Rattle.def_mesh.specs.Darts.{darts, from_of, to_of}
use Rattle.def_mesh.specs.Manifold.{IsSameEdge, IsRepeatFree, HasEdgesOnce, HasOneFan}
use Rattle.def_mesh.specs.declared.Place.{Place}
use Rattle.def_mesh.specs.declared.Place.TheVariants.{Repeated, EdgeTwice, TwoFans}

-- The first of these vertices that stands among those before it, or among the ones seen already.
abbrev pub repeat_after : (seen vertices : List ℕ) → Option ℕ
repeat_after seen [] = None
repeat_after seen (v ∷ vs) = cond (list_any (λ u. u == v) seen) (Some v) (repeat_after (v ∷ seen) vs)

-- The first vertex of a face that stands also at an earlier corner of it.
abbrev pub repeat_in : (face : Face) → Option ℕ
repeat_in face = repeat_after [] face

-- Face f is the least that names a vertex twice, and v is its first such vertex.
pub record IsFirstRepeat (faces : Faces) (f v : ℕ) : Type 0 where
  pub is_face : f < length faces
  pub repeated : repeat_in (face_at faces f) ≡ Some v
  pub least : (g : ℕ) → g < f → repeat_in (face_at faces g) ≡ None

-- Dart e is the least whose directed edge occurs at a lesser dart, which is d.
pub record IsFirstTwice (faces : Faces) (d e : ℕ) : Type 0 where
  pub is_dart : e < darts faces
  pub before : d < e
  pub same : IsSameEdge faces d e
  pub least : (j k : ℕ) → j < k → k < e → ¬ IsSameEdge faces j k

-- The darts d and e are the first two along one directed edge, with these ends and in these faces.
pub record NamesTwice (faces : Faces) (from to face1 face2 d e : ℕ) : Type 0 where
  pub first : IsFirstTwice faces d e
  pub start : from ≡ from_of faces e
  pub end : to ≡ to_of faces e
  pub earlier : face1 ≡ d / 4
  pub later : face2 ≡ e / 4

-- Vertex v is the least whose faces form more than one fan.
pub record IsFirstTwoFans (faces : Faces) (v : ℕ) : Type 0 where
  pub two_fans : ¬ HasOneFan faces v
  pub least : (u : ℕ) → u < v → HasOneFan faces u

-- Where these faces first fail to be a manifold: a vertex named twice comes first, then an edge, then two fans.
abbrev pub IsFirstFault : (faces : Faces) (place : Place) → Type 0
IsFirstFault faces (Repeated face vertex) = IsFirstRepeat faces face vertex
IsFirstFault faces (EdgeTwice from to face1 face2) =
    IsRepeatFree faces × ((d e : ℕ) × NamesTwice faces from to face1 face2 d e)
IsFirstFault faces (TwoFans vertex) = IsRepeatFree faces × HasEdgesOnce faces × IsFirstTwoFans faces vertex
