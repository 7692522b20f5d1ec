-- A forest of blossoms over a graph: the blossoms, their weights, the matching among the outermost ones, and a tree.
use Rattle.std.specs.Prelude.{◌≡◌, ℕ, zero, suc, ◌+◌, ◌<◌, ◌==◌, nat_lt, Bool, not, if◌then◌else◌, ℤ, pos, ◌+ℤ◌, Option}
use Rattle.def_math.specs.Counts.{count_below}
use Rattle.def_math.specs.Sums.{total_below}
use Rattle.def_matching.specs.Matching.{Vertex}
use Rattle.def_forest.specs.Darts.{Dart, Darts, far}
use Rattle.def_forest.specs.declared.kinds.Label.{Label}

-- A blossom is a number: that of a vertex, or from n upwards that of a set.
abbrev pub Blossom : Type 0
Blossom = ℕ

-- How the blossoms lie inside each other. The parts of a set lie on a ring, each joined to the next by a dart.
pub record Nest : Type 0 where
  -- The set around a blossom; itself for an outermost one, and for a number that is not in use.
  pub up : Blossom → Blossom
  -- The next part on the ring, and the dart that leads there.
  pub after : Blossom → Blossom
  pub joint : Blossom → Dart
  -- One part of a set, and how many it has: none for a vertex, and for a number that is not in use.
  pub head : Blossom → Blossom
  pub parts : Blossom → ℕ
  -- A number that is greater for the set around a blossom.
  pub rank : Blossom → ℕ

-- A forest.
pub record Forest : Type 0 where
  -- All blossoms' numbers are below it.
  pub size : ℕ
  -- Whether a blossom holds a vertex, and the outermost blossom of a vertex.
  pub holds : Blossom → Vertex → Bool
  pub out : Vertex → Blossom
  pub weight : Blossom → ℤ
  -- Of outermost blossoms: the place in the tree, the matched dart that leaves it, and the dart towards the root.
  pub label : Blossom → Label
  pub mate : Blossom → Option Dart
  pub link : Blossom → Dart
  pub nest : Nest

-- A set of vertices holds exactly one of two.
abbrev pub splits : (set : Vertex → Bool) (u v : Vertex) → Bool
splits set u v = if set u then not (set v) else set v

-- The load between two vertices: the weights of the blossoms that hold exactly one of them.
abbrev pub weight_between : (f : Forest) (u v : Vertex) → ℤ
weight_between f u v = total_below (λ b. if splits (f.holds b) u v then f.weight b else pos 0) f.size

-- The sum of all weights.
abbrev pub dual_sum_of : (f : Forest) → ℤ
dual_sum_of f = total_below f.weight f.size

-- The load of a dart is twice its cost.
pub record IsTight (g : Darts) (f : Forest) (d : Dart) : Type 0 where
  pub low : d < g.count
  pub exact : weight_between f (g.near d) (far g d) ≡ g.cost d +ℤ g.cost d

-- A blossom is the outermost one of some vertex.
abbrev pub IsOutermost : (n : ℕ) (f : Forest) (b : Blossom) → Type 0
IsOutermost n f b = (v : Vertex) × (v < n) × (f.out v ≡ b)

-- 1 for true, 0 for false.
abbrev pub bool_number : (b : Bool) → ℕ
bool_number b = if b then 1 else 0

-- So many steps from where one is.
abbrev pub walk : (next : ℕ → ℕ) (from steps : ℕ) → ℕ
walk next from zero = from
walk next from (suc k) = next (walk next from k)

-- The sum of f over so many places in a row.
abbrev pub ring_sum : (next : ℕ → ℕ) (f : ℕ → ℕ) (from many : ℕ) → ℕ
ring_sum next f from zero = 0
ring_sum next f from (suc k) = ring_sum next f from k + f (walk next from k)

-- A function with another value at one place.
abbrev pub set_at : {X : Type 0} (f : ℕ → X) (place : ℕ) (value : X) → ℕ → X
set_at f place value k = if k == place then value else f k

-- How many vertices a blossom holds.
abbrev pub blossom_size : (n : ℕ) (f : Forest) (b : Blossom) → ℕ
blossom_size n f b = count_below (λ v. bool_number (f.holds b v)) n

-- 1 for the number of a set that is in use: a number from n on that has parts.
abbrev pub live_at : (n : ℕ) (parts : Blossom → ℕ) (b : Blossom) → ℕ
live_at n parts b = if nat_lt b n then 0 else if parts b == 0 then 0 else 1

-- How many sets are in use.
abbrev pub sets_of : (n : ℕ) (f : Forest) → ℕ
sets_of n f = count_below (live_at n f.nest.parts) f.size
