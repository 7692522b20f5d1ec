-- Writing a forest down: its sets in an order, their names, and what names the set around a blossom.
use Rattle.std.specs.Prelude.{◌≡◌, ℕ, suc, ◌+◌, ◌/◌, ◌<◌, ◌≤◌, ◌==◌, ◌≢◌, false, if◌then◌else◌, List, length}
use Rattle.std.specs.Prelude.{slice_index, slice_index_or, replicate, None, ℤ, pos}
use Rattle.def_matching.specs.Dual.{DualLists}
use Rattle.def_forest.specs.Forests.{Blossom}
use Rattle.def_forest.specs.Tables.{ForestTables, forest_of, up_at}
use Rattle.qm_forest.specs.Rounds.{AreInOrder, HasRoom, IsRound, matched_by}
use Rattle.qm_forest.specs.declared.rounds.Round.{Round}

-- No edge is chosen and no set waits, and there is room for so many sets and numbers.
pub record IsBlank (n : ℕ) (round : Round) (sets y z : ℕ) : Type 0 where
  pub marks : round.marks.items ≡ replicate (length round.marks.items) false
  pub left_out : round.left_out.items ≡ replicate (n + n / 2) None
  pub room_sets : n / 2 ≤ sets
  pub room_y : n ≤ y
  pub room_z : n / 2 ≤ z

-- The edges that match the matched blossoms, and all within them, are chosen.
pub record IsChosen (t : ForestTables) (round : Round) : Type 0 where
  pub room : HasRoom t round
  pub done : IsRound t round.marks.items round.left_out.items (λ b. 0) (matched_by t (length round.marks.items))
  pub ended : (c : Blossom) → slice_index_or round.left_out.items c None ≡ None

-- The set at a place of an order.
abbrev pub set_in : (sets : List (ℕ × Blossom)) (k : ℕ) → Blossom
set_in sets k = (slice_index_or sets k (0, 0)).1

-- The weights of so many blossoms, one after another.
pub record AreWeights (weight : Blossom → ℤ) (place : ℕ → Blossom) (many : ℕ) (numbers : List ℤ) : Type 0 where
  pub size : length numbers ≡ many
  pub each : (k : ℕ) → k < many → slice_index_or numbers k (pos 0) ≡ weight (place k)

-- The first sets of an order have names: one more than their places.
abbrev pub AreNames : (sets : List (ℕ × Blossom)) (many : ℕ) (names : List ℕ) → Type 0
AreNames sets many names = (k : ℕ) → k < many → slice_index names (set_in sets k) ≡ suc k

-- No set stands at two places of an order.
abbrev pub AreDistinct : (sets : List (ℕ × Blossom)) → Type 0
AreDistinct sets = (j k : ℕ) → j < k → k < length sets → set_in sets j ≢ set_in sets k

-- The name of the set around a blossom, or 0 where there is none.
abbrev pub entry_of : (up : Blossom → Blossom) (names : List ℕ) (b : Blossom) → ℕ
entry_of up names b = if up b == b then 0 else slice_index names (up b)

-- From a place on there are the entries of so many blossoms, one after another.
abbrev pub AreEntries : (up : Blossom → Blossom) (names : List ℕ) (place : ℕ → Blossom) (from many : ℕ)
    (entries : List ℕ) → Type 0
AreEntries up names place from many entries = (k : ℕ) → k < many
    → slice_index entries (from + k) ≡ entry_of up names (place k)

-- The entries of n vertices and of the sets at so many places.
pub record IsListOf (up : Blossom → Blossom) (names : List ℕ) (n : ℕ) (place : ℕ → Blossom) (many : ℕ)
    (entries : List ℕ) : Type 0 where
  pub size : length entries ≡ n + many
  pub vertices : AreEntries up names (λ v. v) 0 n entries
  pub sets : AreEntries up names place n many entries

-- The dual of a forest is written down, with the sets in an order.
pub record IsOutline (t : ForestTables) (sets : List (ℕ × Blossom)) (d : DualLists) : Type 0 where
  pub order : AreInOrder t sets
  pub y : AreWeights (forest_of t).weight (λ v. v) (length t.hand) d.y
  pub z : AreWeights (forest_of t).weight (set_in sets) (length sets) d.z
  pub names : List ℕ
  pub named : AreNames sets (length sets) names
  pub entries : IsListOf (up_at t.up) names (length t.hand) (set_in sets) (length sets) d.up
  pub whole : length t.up ≡ length t.hand + length t.hand / 2
  -- What is around a blossom is a set in use, and so is what has one around it unless it is a vertex.
  pub around : (x : Blossom) → up_at t.up x ≢ x → (length t.hand ≤ up_at t.up x) × (up_at t.up x < length t.up)
      × (slice_index t.parts (up_at t.up x) ≢ 0)
  pub inner : (x : Blossom) → up_at t.up x ≢ x → x < length t.up
  pub live : (x : Blossom) → up_at t.up x ≢ x → length t.hand ≤ x → slice_index t.parts x ≢ 0
