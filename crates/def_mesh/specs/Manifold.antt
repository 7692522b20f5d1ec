-- When a list of faces is a manifold: three facts about the list alone.
use Rattle.std.specs.Prelude.{◌≡◌, ◌≢◌, ℕ, zero, suc, ◌<◌, ◌==◌, Bool, IsTrue, List, [], ◌∷◌, length}
use Rattle.std.specs.List.{list_any}
use Rattle.def_mesh.specs.Faces.{Faces, corner}
use Rattle.def_mesh.specs.Darts.{darts, prev_of, from_of, to_of}

-- No face names a vertex twice.
abbrev pub IsRepeatFree : (faces : Faces) → Type 0
IsRepeatFree faces = (f i j : ℕ) → f < length faces → i < j → j < 4 → corner faces f i ≢ corner faces f j

-- Darts d and e run from the same vertex to the same vertex.
abbrev pub IsSameEdge : (faces : Faces) (d e : ℕ) → Type 0
IsSameEdge faces d e = (from_of faces d ≡ from_of faces e) × (to_of faces d ≡ to_of faces e)

-- No directed edge occurs twice.
abbrev pub HasEdgesOnce : (faces : Faces) → Type 0
HasEdgesOnce faces = (d e : ℕ) → d < darts faces → e < darts faces → IsSameEdge faces d e → d ≡ e

-- The far ends of the two edges that the corner at d has at its vertex.
abbrev pub far_ends : (faces : Faces) (d : ℕ) → List ℕ
far_ends faces d = to_of faces d ∷ from_of faces (prev_of d) ∷ []

-- Whether two lists of vertices have one in common.
abbrev pub meet : (us vs : List ℕ) → Bool
meet us vs = list_any (λ u. list_any (λ v. v == u) vs) us

-- The corners at d and e, which leave one vertex, share an edge there: the two edges have the same far end.
abbrev pub AreNeighbours : (faces : Faces) (d e : ℕ) → Type 0
AreNeighbours faces d e = IsTrue (meet (far_ends faces d) (far_ends faces e))

-- From corner d to corner e lead so many steps round one vertex, each between neighbours.
abbrev pub Chain : (faces : Faces) (d e steps : ℕ) → Type 0
Chain faces d e zero = d ≡ e
Chain faces d e (suc n) =
    (c : ℕ) × Chain faces d c n × (e < darts faces) × (from_of faces c ≡ from_of faces e) × AreNeighbours faces c e

-- Any two corners at v are joined by a chain.
abbrev pub HasOneFan : (faces : Faces) (v : ℕ) → Type 0
HasOneFan faces v = (d e : ℕ) → d < darts faces → e < darts faces → from_of faces d ≡ v → from_of faces e ≡ v
    → (n : ℕ) × Chain faces d e n

-- A manifold.
pub record IsManifold (faces : Faces) : Type 0 where
  pub repeat_free : IsRepeatFree faces
  pub edges_once : HasEdgesOnce faces
  pub one_fan : (v : ℕ) → HasOneFan faces v
