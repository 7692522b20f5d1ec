-- Duals of a graph with nested sets: which vertices a set holds, the load of an edge, and the verdict.
use Rattle.std.specs.Prelude.{◌≡◌, ℕ, zero, suc, ◌+◌, ◌%◌, ◌<◌, ◌≤◌, ◌==◌, nat_lt, nat_le, Bool, not, ◌&&◌, ◌||◌}
use Rattle.std.specs.Prelude.{if◌then◌else◌}
use Rattle.std.specs.Prelude.{List, [], ◌∷◌, length, ℤ, pos, ◌+ℤ◌, ◌*ℤ◌, ◌≤ℤ◌, int_lt, unsigned_abs, slice_index}
use Rattle.std.specs.Prelude.{slice_index_or}
use Rattle.std.specs.Prelude.{Option, Some, None, IsTrue}
use Rattle.std.specs.List.{list_any}
use Rattle.def_math.specs.Counts.{count_below}
use Rattle.def_math.specs.Searches.{least}
use Rattle.def_math.specs.Sums.{total, total_below}
use Rattle.def_matching.specs.Matching.{WeightedGraph, Vertex, EdgeNumber, edge_at}
use Rattle.def_matching.specs.declared.limits.TheConstants.{MAX_SETS, NUMBER_LIMIT}
use Rattle.def_matching.specs.declared.weighted.Dual.{Dual}
use Rattle.def_matching.specs.declared.weighted.WEdge.{WEdge}
use Rattle.def_matching.specs.declared.weighted.Verdict.{Verdict}
use Rattle.def_matching.specs.declared.weighted.Verdict.TheVariants.{Yes, Shape, Even, Negative, Short}

-- A set is a number: its place in the list of the sets' numbers z.
abbrev pub SetNumber : Type 0
SetNumber = ℕ

-- What names the smallest set around something: 0 where there is none, or else one more than the set's number.
abbrev pub Entry : Type 0
Entry = ℕ

-- A dual: the vertices' numbers y, the sets' numbers z, and for each vertex and then each set the set around it.
pub record DualLists : Type 0 where
  pub y : List ℤ
  pub z : List ℤ
  pub up : List Entry

-- What a contract sees of a dual.
abbrev pub dual : (d : Dual) → DualLists
dual d = record { y = d.y.items; z = d.z.items; up = d.up.items }

-- The number of a vertex.
abbrev pub y_at : (d : DualLists) (v : Vertex) → ℤ
y_at d v = slice_index_or d.y v (pos 0)

-- The number of a set.
abbrev pub z_at : (d : DualLists) (k : SetNumber) → ℤ
z_at d k = slice_index_or d.z k (pos 0)

-- The set that an entry names and those around it, from the smallest out, but no more than `most` of them. What is
-- around set k stands in `up` past the entries of the n vertices.
abbrev pub sets_from : (n : ℕ) (up : List Entry) (most : ℕ) (entry : Entry) → List SetNumber
sets_from n up zero entry = []
sets_from n up (suc most) zero = []
sets_from n up (suc most) (suc k) = k ∷ sets_from n up most (slice_index up (n + k))

-- The sets around a vertex, from the smallest out.
abbrev pub sets_around : (n : ℕ) (d : DualLists) (v : Vertex) → List SetNumber
sets_around n d v = sets_from n d.up (length d.z) (slice_index d.up v)

-- A set holds a vertex: it is one of the sets around it.
abbrev pub holds : (n : ℕ) (d : DualLists) (k : SetNumber) (v : Vertex) → Bool
holds n d k v = list_any (λ j. j == k) (sets_around n d v)

-- How many vertices a set holds.
abbrev pub set_size : (n : ℕ) (d : DualLists) (k : SetNumber) → ℕ
set_size n d k = count_below (λ v. if holds n d k v then 1 else 0) n

-- A set holds exactly one end of an edge.
abbrev pub crosses : (set : Vertex → Bool) (e : WEdge) → Bool
crosses set e = if set e.u then not (set e.v) else set e.v

-- The load of an edge: the numbers of its ends, and those of the sets that hold exactly one of them.
abbrev pub load : (n : ℕ) (d : DualLists) (e : WEdge) → ℤ
load n d e =
    (y_at d e.u +ℤ y_at d e.v) +ℤ total_below (λ k. if crosses (holds n d k) e then z_at d k else pos 0) (length d.z)

-- The sum of a dual.
abbrev pub dual_sum : (d : DualLists) → ℤ
dual_sum d = total (λ y. y) d.y +ℤ total (λ z. z) d.z

-- The entry at a place of `up` is 0, or names one of m sets at a later place: set k has the place n + k.
abbrev pub is_up : (n m place : ℕ) (entry : Entry) → Bool
is_up n m place entry = (entry == 0) || (nat_lt (place + 1) (n + entry) && nat_le entry m)

-- A lawful size of a set: odd, and at least three.
abbrev pub is_odd_size : (size : ℕ) → Bool
is_odd_size size = (size % 2 == 1) && nat_le 3 size

-- The entries of `up` nest the m sets: each is 0 or names a set at a later place.
pub record AreNestedSets (n m : ℕ) (up : List Entry) : Type 0 where
  pub entries : length up ≡ n + m
  pub later : (i : ℕ) → i < n + m → IsTrue (is_up n m i (slice_index up i))

-- A dual says yes.
pub record SaysYes (g : WeightedGraph) (d : DualLists) : Type 0 where
  pub numbers : length d.y ≡ g.n
  pub nested : AreNestedSets g.n (length d.z) d.up
  pub odd : (k : SetNumber) → k < length d.z → IsTrue (is_odd_size (set_size g.n d k))
  pub positive : (k : SetNumber) → k < length d.z → pos 0 ≤ℤ z_at d k
  pub loaded : (k : EdgeNumber) → k < length g.edges → load g.n d (edge_at g k) ≤ℤ (pos 2 *ℤ (edge_at g k).cost)

-- The numbers are small in absolute value.
abbrev pub AreSmall : (numbers : List ℤ) → Type 0
AreSmall numbers = (k : ℕ) → k < length numbers → unsigned_abs (slice_index_or numbers k (pos 0)) < NUMBER_LIMIT

-- A dual that the calls take, with few sets and small numbers.
pub record IsSmallDual (d : DualLists) : Type 0 where
  pub sets : length d.z ≤ MAX_SETS
  pub small_y : AreSmall d.y
  pub small_z : AreSmall d.z

-- Where the lists have the wrong lengths, or else the least place at which `up` is out of range.
abbrev pub shape_fault : (n : ℕ) (d : DualLists) → Option ℕ
shape_fault n d =
    if not (length d.y == n) then Some n
    else if not (length d.up == n + length d.z) then Some (n + 1)
    else least (λ i. not (is_up n (length d.z) i (slice_index d.up i))) (n + length d.z)

-- The least set of an unlawful size.
abbrev pub even_fault : (n : ℕ) (d : DualLists) → Option SetNumber
even_fault n d = least (λ k. not (is_odd_size (set_size n d k))) (length d.z)

-- The least set whose number is negative.
abbrev pub negative_fault : (d : DualLists) → Option SetNumber
negative_fault d = least (λ k. int_lt (z_at d k) (pos 0)) (length d.z)

-- The least edge whose load is above twice its cost.
abbrev pub short_fault : (g : WeightedGraph) (d : DualLists) → Option EdgeNumber
short_fault g d = least (λ k. int_lt (pos 2 *ℤ (edge_at g k).cost) (load g.n d (edge_at g k))) (length g.edges)

-- A refusal at what was found, or else what comes after.
abbrev pub refuse : {V : Type 0} (found : Option ℕ) (at : ℕ → V) (after : V) → V
refuse (Some k) at after = at k
refuse None at after = after

-- The verdict on a dual: the first of the four refusals that holds, or else yes with the dual's sum.
abbrev pub verdict : (g : WeightedGraph) (d : DualLists) → Verdict
verdict g d =
    refuse (shape_fault g.n d) (λ i. Shape i)
    (refuse (even_fault g.n d) (λ k. Even k (set_size g.n d k))
    (refuse (negative_fault d) (λ k. Negative k)
    (refuse (short_fault g d) (λ k. Short k (load g.n d (edge_at g k)) (pos 2 *ℤ (edge_at g k).cost))
    (Yes (dual_sum d)))))
