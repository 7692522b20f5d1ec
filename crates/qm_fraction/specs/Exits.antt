-- What the tables of exits have to keep.
use Rattle.std.specs.Prelude.{◌≡◌, ℕ, ◌+◌, ◌^◌, ◌<◌, ◌≤◌, List, length}
use Rattle.std.specs.List.{All}
use Rattle.qm_fraction.specs.declared.exits.Dart.{Dart}
use Rattle.qm_fraction.specs.declared.exits.Exit.{Exit}

-- A dart leads between vertices.
abbrev pub IsDartWithin : (n : ℕ) (dart : Dart) → Type 0
IsDartWithin n dart = (dart.from < n) × (dart.to < n)

-- An exit leads to a vertex.
abbrev pub IsExitWithin : (n : ℕ) (exit : Exit) → Type 0
IsExitWithin n exit = exit.to < n

-- The tables of the exits of so many vertices fit each other.
pub record AreExits (vertices : ℕ) (exits : List Exit) (firsts : List ℕ) : Type 0 where
  pub some : 1 ≤ vertices
  pub few : length exits ≤ 2 ^ 31
  pub all : All (IsExitWithin vertices) exits
  pub counted : length firsts ≡ vertices + 1
  pub begin : All (λ first. first ≤ length exits) firsts
