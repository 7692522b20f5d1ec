-- What the tables over the nested sets of a dual hold.
use Rattle.std.specs.Prelude.{◌≡◌, ℕ, zero, suc, ◌+◌, ◌-◌, ◌<◌, ◌≤◌, ◌≢◌, ◌⊎◌, ◌==◌, ◌&&◌, ◌||◌, nat_lt, Bool, not}
use Rattle.std.specs.Prelude.{if◌then◌else◌, List, length, ℤ, pos, slice_index, slice_index_or, slice_set}
use Rattle.std.specs.List.{list_any}
use Rattle.def_math.specs.Counts.{count_below}
use Rattle.def_math.specs.Sums.{total_below}
use Rattle.def_matching.specs.Dual.{DualLists, AreNestedSets, sets_from, set_size, z_at}
use Rattle.def_matching.specs.declared.limits.TheConstants.{MAX_SETS, MAX_VERTICES}

-- Few vertices and few sets, which are nested.
pub record IsNest (n : ℕ) (d : DualLists) : Type 0 where
  pub few : n ≤ MAX_VERTICES
  pub sets : length d.z ≤ MAX_SETS
  pub nested : AreNestedSets n (length d.z) d.up

-- A climb from an entry passes set k within so many steps: it is one of the sets that the entry names.
abbrev pub climbs : (n : ℕ) (up : List ℕ) (steps k entry : ℕ) → Bool
climbs n up steps k entry = list_any (λ j. j == k) (sets_from n up steps entry)

-- Where a climb from an entry stands when the sets below k have passed on what they hold.
abbrev pub stand_of : ℕ → List ℕ → ℕ → ℕ → ℕ
stand_of n up zero entry = entry
stand_of n up (suc k) entry = if stand_of n up k entry == suc k then slice_index up (n + k) else stand_of n up k entry

-- How many of the first vertices stand at set k, when the sets below t have passed on what they hold.
abbrev pub tally : ℕ → List ℕ → ℕ → ℕ → ℕ → ℕ
tally n up vertices t k = count_below (λ v. if stand_of n up t (slice_index up v) == suc k then 1 else 0) vertices

-- The tallies of the sets, set k's when the sets below t k have passed on what they hold.
pub record AreTallies (n m : ℕ) (up : List ℕ) (vertices : ℕ) (t : ℕ → ℕ) (sizes : List ℕ) : Type 0 where
  pub count : length sizes ≡ m
  pub each : (k : ℕ) → k < m → slice_index sizes k ≡ tally n up vertices (t k) k

-- The sizes of the sets.
pub record AreSizes (n : ℕ) (d : DualLists) (sizes : List ℕ) : Type 0 where
  pub count : length sizes ≡ length d.z
  pub each : (k : ℕ) → k < length d.z → slice_index sizes k ≡ set_size n d k

-- The sum of the numbers of the sets that a climb from an entry passes.
abbrev pub around : ℕ → DualLists → ℕ → ℤ
around n d entry = total_below (λ k. if climbs n d.up (length d.z) k entry then z_at d k else pos 0) (length d.z)

-- The sum of the numbers of the sets that a climb passes from exactly one of two entries.
abbrev pub apart : ℕ → DualLists → ℕ → ℕ → ℤ
apart n d a b =
    total_below
    (λ k. if
    (if climbs n d.up (length d.z) k a then not (climbs n d.up (length d.z) k b)
    else climbs n d.up (length d.z) k b)
    then z_at d k else pos 0)
    (length d.z)

-- For each set from k on, the sum of its number and those of the sets around it.
pub record AreSums (n : ℕ) (d : DualLists) (k : ℕ) (sums : List ℤ) : Type 0 where
  pub count : length sums ≡ length d.z
  pub each : (j : ℕ) → k ≤ j → j < length d.z → slice_index_or sums j (pos 0) ≡ around n d (suc j)

-- Set k heads its path, or lies on the path of the set around it, as the one that this set picks.
abbrev pub IsHead : ℕ → List ℕ → (ℕ → ℕ) → List ℕ → ℕ → Type 0
IsHead n up picks heads k =
    (slice_index heads k ≡ suc k)
    ⊎ ((q : ℕ) × (slice_index up (n + k) ≡ suc q) × (slice_index heads k ≡ slice_index heads q) × (picks q ≡ suc k))

-- The sets fall into paths, and each set's entry names the head of its path. A set picks at most one inside it.
pub record AreHeads (n m : ℕ) (up heads : List ℕ) : Type 0 where
  pub count : length heads ≡ m
  pub picks : ℕ → ℕ
  pub each : (k : ℕ) → k < m → IsHead n up picks heads k

-- The tables that the load of an edge is read from.
pub record AreTables (n : ℕ) (d : DualLists) (sums : List ℤ) (heads : List ℕ) : Type 0 where
  pub summed : AreSums n d 0 sums
  pub headed : AreHeads n (length d.z) d.up heads

-- The set k, from 1, where it is greater than the rival, or there is none; or else the rival.
abbrev pub pick_with : (sizes : List ℕ) (rival k : ℕ) → ℕ
pick_with sizes rival k =
    if (rival == 0) || nat_lt (slice_index sizes (rival - 1)) (slice_index sizes k) then k + 1 else rival

-- Of the sets below k, one that set q picks is a greatest of those directly inside it, and it picks none where none is.
abbrev pub IsPick : (n k : ℕ) (up sizes : List ℕ) (q pick : ℕ) → Type 0
IsPick n k up sizes q zero = (j : ℕ) → j < k → slice_index up (n + j) ≢ suc q
IsPick n k up sizes q (suc p) =
    (p < k) × (slice_index up (n + p) ≡ suc q)
    × ((j : ℕ) → j < k → slice_index up (n + j) ≡ suc q → slice_index sizes j ≤ slice_index sizes p)

-- The picks of all m sets among the sets below k.
pub record ArePicks (n m k : ℕ) (up sizes picks : List ℕ) : Type 0 where
  pub count : length picks ≡ m
  pub each : (q : ℕ) → q < m → IsPick n k up sizes q (slice_index picks q)

-- A climb passes the same sets from one entry as from both of two.
abbrev pub IsMeeting : ℕ → ℕ → List ℕ → ℕ → ℕ → ℕ → Type 0
IsMeeting n m up a b entry = (k : ℕ) → climbs n up m k entry ≡ (climbs n up m k a && climbs n up m k b)

-- The sets around both of two entries are those around both of two others.
abbrev pub HaveSameSets : ℕ → ℕ → List ℕ → ℕ → ℕ → ℕ → ℕ → Type 0
HaveSameSets n m up a b c e =
    (k : ℕ) → (climbs n up m k a && climbs n up m k b) ≡ (climbs n up m k c && climbs n up m k e)

-- What is left to climb from an entry.
abbrev pub left : ℕ → ℕ → ℕ
left m zero = 0
left m (suc k) = suc m - k

-- The numbers with more tally_with to that of the set which an entry names, if it names one.
abbrev pub tally_with : List ℕ → ℕ → ℕ → List ℕ
tally_with sizes zero more = sizes
tally_with sizes (suc k) more = slice_set sizes k (slice_index sizes k + more)

-- The number of the set which an entry names, or 0 if it names none.
abbrev pub named_sum : List ℤ → ℕ → ℤ
named_sum sums zero = pos 0
named_sum sums (suc k) = slice_index_or sums k (pos 0)
