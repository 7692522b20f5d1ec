-- Which positions some face names.
use Rattle.std.specs.Prelude.{◌≡◌, ◌<◌, ◌-◌, ◌&&◌, ℕ, suc, Bool, false, nat_lt, nat_le, if◌then◌else◌, ◌≤◌, take}
use Rattle.std.specs.Prelude.{drop, map, Option, Some, None, MatchOption, List, [], ◌∷◌, length, slice_index}
use Rattle.std.specs.Prelude.{slice_index_or}
use Rattle.std.specs.List.{filter, list_all, list_any}
use Rattle.def_text.specs.declared.refusal.ObjFail.{ObjFail}
use Rattle.def_text.specs.declared.refusal.ObjFail.TheVariants.{Range}
use Rattle.def_mesh.specs.Vertices.{is_used}
use Rattle.def_text.specs.Text.{numbers_to, position_of}
use Rattle.def_text.specs.Types.{Positions}
use Rattle.def_mesh.specs.Faces.{Faces}

-- The line of the first face that names a `v` line above the last.
abbrev pub first_late : (vertices : ℕ) (faces : Faces) (lines : List ℕ) → Option ℕ
first_late vertices [] lines = None
first_late vertices (face ∷ faces) [] = None
first_late vertices (face ∷ faces) (line ∷ lines) =
    if list_any (λ corner. nat_lt vertices corner) face then Some line else first_late vertices faces lines

-- Each of these numbers is one from 1 to n.
abbrev pub are_numbers : ℕ → List ℕ → Bool
are_numbers n xs = list_all (λ x. nat_lt 0 x && nat_le x n) xs

-- The mark at k says whether some face names k + 1.
pub record IsMarked (faces : Faces) (n : ℕ) (marks : List Bool) : Type 0 where
  pub size : length marks ≡ n
  pub each : (k : ℕ) → k < n → slice_index_or marks k false ≡ is_used faces (suc k)

-- The numbers from 1 to n that have marks.
abbrev pub chosen : List Bool → ℕ → List ℕ
chosen marks n = filter (λ k. slice_index_or marks (k - 1) false) (numbers_to n)

-- At k stands how many marks are before it.
pub record IsCounted (marks : List Bool) (vertices : List ℕ) : Type 0 where
  pub size : length vertices ≡ length marks
  pub each : (k : ℕ) → k < length marks → slice_index vertices k ≡ length (chosen marks k)

-- The refusal of a face at this line.
abbrev pub IsLate : ObjFail → Option ℕ → Type 0
IsLate fail late = MatchOption late ⊥ (λ line. fail ≡ Range line)

-- The marked ones of the first k positions stand in front, with their numbers, and the positions from k on are as they
-- were.
pub record IsKept (marks : List Bool) (old positions : Positions) (names : List ℕ) (k : ℕ) : Type 0 where
  pub names_are : names ≡ chosen marks k
  pub few : length names ≤ k
  pub size : length positions ≡ length marks
  pub prefix : take (length names) positions ≡ map (position_of old) (chosen marks k)
  pub back : drop k positions ≡ drop k old
