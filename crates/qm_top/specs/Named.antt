-- Places whose vertices have numbers in the file.
use Rattle.std.specs.Prelude.{◌≡◌, ◌≢◌, ℕ, nat_lt, true, List, [], ◌∷◌, length, ⊤}
use Rattle.std.specs.List.{list_all}
use Rattle.def_mesh.specs.declared.Place.{Place}
use Rattle.def_mesh.specs.declared.Place.TheVariants.{Repeated, EdgeTwice, TwoFans}
use Rattle.def_run.specs.declared.answer.Answer.{Answer}
use Rattle.def_run.specs.declared.answer.Answer.TheVariants.{Done, NotManifold, Usage}

-- The vertices of a place.
abbrev pub vertices_of : (place : Place) → List ℕ
vertices_of (Repeated face vertex) = vertex ∷ []
vertices_of (EdgeTwice from to face1 face2) = from ∷ to ∷ []
vertices_of (TwoFans vertex) = vertex ∷ []

-- Each vertex of a place has a number.
abbrev pub IsNamed : (names : List ℕ) (place : Place) → Type 0
IsNamed names place = list_all (λ v. nat_lt v (length names)) (vertices_of place) ≡ true

-- Each vertex that an answer names has a number.
abbrev pub HasNames : (names : List ℕ) (answer : Answer) → Type 0
HasNames names (NotManifold place) = IsNamed names place
HasNames names _ = ⊤

-- An answer that refuses, and names no vertex.
pub record IsUnnamed (answer : Answer) : Type 0 where
  pub unnamed : HasNames [] answer
  pub refusal : answer ≢ Done
  pub accepted : answer ≢ Usage
