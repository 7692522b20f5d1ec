-- Choosing the matched edges within blossoms: which are chosen, and which blossoms wait.
use Rattle.std.specs.Prelude.{◌≡◌, ◌≢◌, ℕ, ◌+◌, ◌*◌, ◌^◌, ◌<◌, ◌≤◌}
use Rattle.std.specs.Prelude.{◌==◌, ◌&&◌, nat_lt, Bool, true, false, if◌then◌else◌}
use Rattle.std.specs.Prelude.{List, length, slice_index, slice_index_or, slice_set, Option, Some, None}
use Rattle.std.specs.List.{All, Contains}
use Rattle.std.specs.List.Sorted.{IsNonDecreasingBy}
use Rattle.def_math.specs.Counts.{count, count_below}
use Rattle.def_math.specs.Increasing.{IsIncreasing}
use Rattle.def_matching.specs.Matching.{WeightedGraph, Vertex, IsSmallGraph}
use Rattle.def_forest.specs.Darts.{Dart, darts_of, other_dart}
use Rattle.def_forest.specs.Forests.{Blossom, IsTight, live_at, bool_number, splits}
use Rattle.def_forest.specs.Valid.{IsValid}
use Rattle.def_forest.specs.Tables.{ForestTables, forest_of, climbs, up_at}
use Rattle.qm_forest.specs.Ties.{IsInUse}
use Rattle.qm_forest.specs.declared.rounds.Round.{Round}

-- The forest is valid for a small graph, whose darts begin where they do in the forest. There may be no room for what
-- it comes to.
pub record IsSoundFor (g : WeightedGraph) (t : ForestTables) : Type 0 where
  pub small : IsSmallGraph g
  pub vertices : length t.hand ≡ g.n
  pub darts : length t.near ≡ 2 * length g.edges
  pub ends : (d : Dart) → d < 2 * length g.edges → slice_index t.near d ≡ (darts_of g).near d
  pub valid : IsValid (darts_of g) (forest_of t) t.root

-- Blossom b is blossom c, or lies in it.
abbrev pub within : (t : ForestTables) (b c : Blossom) → Bool
within t b c = climbs (up_at t.up) (length t.hand) c b

-- Where a dart begins and where it ends.
abbrev pub near_at : (t : ForestTables) (d : Dart) → Vertex
near_at t d = slice_index t.near d

abbrev pub far_at : (t : ForestTables) (d : Dart) → Vertex
far_at t d = slice_index t.near (other_dart d)

-- How many of the chosen edges leave a blossom.
abbrev pub leaving : (t : ForestTables) (marks : List Bool) (b : Blossom) → ℕ
leaving t marks b =
    count_below (λ e. bool_number (slice_index_or marks e false
    && splits ((forest_of t).holds b) (near_at t (2 * e)) (near_at t (2 * e + 1)))) (length marks)

-- 1 where blossom b lies in c and does not hold a vertex: of the blossoms in c all but those around it wait.
abbrev pub waits_but : (t : ForestTables) (b c : Blossom) (v : Vertex) → ℕ
waits_but t b c v = if within t b c then (if (forest_of t).holds b v then 0 else 1) else 0

abbrev pub waits_for : (t : ForestTables) (b c : Blossom) (entry : Option Vertex) → ℕ
waits_for t b c None = 0
waits_for t b c (Some v) = waits_but t b c v

-- In how many of the sets that wait blossom b does.
abbrev pub waiting : (t : ForestTables) (left_out : List (Option Vertex)) (b : Blossom) → ℕ
waiting t left_out b = count_below (λ c. waits_for t b c (slice_index_or left_out c None)) (length left_out)

-- A set waits with all its vertices but one of them.
pub record IsEntry (t : ForestTables) (c : Blossom) (v : Vertex) : Type 0 where
  pub high : length t.hand ≤ c
  pub live : slice_index t.parts c ≢ 0
  pub low : v < length t.hand
  pub held : (forest_of t).holds c v ≡ true

-- Each blossom is left by so many chosen edges, or waits, or else is one of the rest: so often as is due.
pub record IsRound (t : ForestTables) (marks : List Bool) (left_out : List (Option Vertex)) (rest due : Blossom → ℕ)
    : Type 0 where
  pub each : (b : Blossom) → b < length t.up → leaving t marks b + (waiting t left_out b + rest b) ≡ due b
  pub entry : (c : Blossom) (v : Vertex) → slice_index_or left_out c None ≡ Some v → IsEntry t c v
  pub once : (v : Vertex) → v < length t.hand → due v ≤ 1
  pub tight : (g : WeightedGraph) → IsSoundFor g t → (e : ℕ) → slice_index_or marks e false ≡ true
      → IsTight (darts_of g) (forest_of t) (2 * e)

-- What the tables say of how blossoms lie in each other: the way out rises, and ends soon.
pub record IsLaminar (t : ForestTables) : Type 0 where
  pub vertices : length t.hand ≤ length t.up
  pub few : length t.up ≤ 2 ^ 26
  pub rises : (x : Blossom) → up_at t.up x ≢ x → slice_index t.rank x < slice_index t.rank (up_at t.up x)
  pub low : (x : Blossom) → x < length t.up → IsInUse (length t.hand) t.parts x
      → slice_index t.rank x ≤ length t.hand
  pub passed : (b : Blossom) (v : Vertex) → v < length t.hand → within t v b ≡ true
      → slice_index t.rank b ≤ length t.hand
  pub own : (b x : Blossom) → x < length t.hand → within t b x ≡ true → b ≡ x
  pub two : (x : Blossom) → x < length t.up → IsInUse (length t.hand) t.parts x → 2 ≤ slice_index t.rank x
      → (u : Vertex) × (v : Vertex) × (u < length t.hand) × (v < length t.hand) × (u ≢ v) × (within t u x ≡ true)
      × (within t v x ≡ true)
  pub some : (x : Blossom) → x < length t.up → IsInUse (length t.hand) t.parts x → 1 ≤ slice_index t.rank x

-- A sound forest, with a mark for each edge and an entry for each blossom.
pub record HasRoom (t : ForestTables) (round : Round) : Type 0 where
  pub laminar : IsLaminar t
  pub sound : (g : WeightedGraph) × IsSoundFor g t
  pub marks : length t.near ≡ 2 * length round.marks.items
  pub left_out : length round.left_out.items ≡ length t.up

-- Two blossoms are joined by a dart, and a blossom is left by it or waits as often as it lies in one of them.
pub record IsPairing (t : ForestTables) (x y : Blossom) (d : Dart) : Type 0 where
  pub dart : d < length t.near
  pub small : d < 2 ^ 31
  pub low_x : x < length t.up
  pub low_y : y < length t.up
  pub other : x ≢ y
  pub apart : near_at t d ≢ far_at t d
  pub near_low : near_at t d < length t.hand
  pub far_low : far_at t d < length t.hand
  pub near_held : (forest_of t).holds x (near_at t d) ≡ true
  pub far_held : (forest_of t).holds y (far_at t d) ≡ true
  pub live_x : length t.hand ≤ x → slice_index t.parts x ≢ 0
  pub live_y : length t.hand ≤ y → slice_index t.parts y ≢ 0
  pub law : (b : Blossom) → b < length t.up
      → bool_number (splits ((forest_of t).holds b) (near_at t d) (far_at t d))
      + (waits_but t b x (near_at t d) + waits_but t b y (far_at t d))
      ≡ bool_number (within t b x) + bool_number (within t b y)
  pub tight : (g : WeightedGraph) → IsSoundFor g t → IsTight (darts_of g) (forest_of t) d

-- A set waits from now on; a single vertex does not.
abbrev pub entered : (n : ℕ) (left_out : List (Option Vertex)) (c : Blossom) (v : Vertex) → List (Option Vertex)
entered n left_out c v = if nat_lt c n then left_out else slice_set left_out c (Some v)

-- A set that is in use, with how many vertices it has.
pub record IsSized (t : ForestTables) (bound : ℕ) (sized : ℕ × Blossom) : Type 0 where
  pub rank : sized.0 ≡ slice_index t.rank sized.1
  pub high : length t.hand ≤ sized.1
  pub low : sized.1 < bound
  pub live : slice_index t.parts sized.1 ≢ 0

-- A list has all sets below a number that are in use.
pub record HasSets (t : ForestTables) (bound : ℕ) (sets : List (ℕ × Blossom)) : Type 0 where
  pub each : All (IsSized t bound) sets
  pub all : (b : Blossom) → length t.hand ≤ b → b < bound → slice_index t.parts b ≢ 0
      → Contains sets (slice_index t.rank b, b)
  -- Each of them is there once.
  pub counts : (f : Blossom → ℕ) → count (λ set. f set.1) sets
      ≡ count_below (λ b. live_at (length t.hand) (slice_index t.parts) b * f b) bound

-- All sets in use, those with fewer vertices first.
pub record AreInOrder (t : ForestTables) (sets : List (ℕ × Blossom)) : Type 0 where
  pub has : HasSets t (length t.up) sets
  pub few : length t.hand + length sets ≤ length t.up
  pub increasing : IsNonDecreasingBy (λ (set : ℕ × Blossom). set.0) sets

-- Each set that waits is one of the first of a list.
abbrev pub WaitWithin : (left_out : List (Option Vertex)) (sets : List (ℕ × Blossom)) (many : ℕ) → Type 0
WaitWithin left_out sets many = (c : Blossom) (v : Vertex) → slice_index_or left_out c None ≡ Some v
    → (k : ℕ) × (k < many) × (k < length sets) × ((slice_index_or sets k (0, 0)).1 ≡ c)

-- The numbers at which marks stand, in increasing order.
pub record AreMarked (marks : List Bool) (bound : ℕ) (list : List ℕ) : Type 0 where
  pub increasing : IsIncreasing 0 bound list
  pub each : (k : ℕ) → k < length list → slice_index_or marks (slice_index list k) false ≡ true
  pub counts : (f : ℕ → ℕ) → count f list ≡ count_below (λ e. if slice_index_or marks e false then f e else 0) bound

-- A matched dart is this one.
abbrev pub is_dart : (mate : Option Dart) (d : Dart) → Bool
is_dart None d = false
is_dart (Some m) d = m == d

-- An edge matches the outermost blossoms of its ends.
abbrev pub matches : (t : ForestTables) (e : ℕ) → Bool
matches t e = is_dart ((forest_of t).mate ((forest_of t).out (near_at t (2 * e)))) (2 * e)

-- In how many of the outermost blossoms that the first edges match a blossom lies.
abbrev pub matched_by : (t : ForestTables) (edges : ℕ) (b : Blossom) → ℕ
matched_by t edges b = count_below (λ e. if matches t e
    then bool_number (within t b ((forest_of t).out (near_at t (2 * e))))
    + bool_number (within t b ((forest_of t).out (near_at t (2 * e + 1)))) else 0) edges
