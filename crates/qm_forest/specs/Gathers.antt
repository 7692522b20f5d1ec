-- What the loops over a ring need, and what they leave.
use Rattle.std.specs.Prelude.{◌≡◌, ◌≢◌, ℕ, suc, ◌+◌, ◌-◌, ◌*◌, ◌<◌, ◌≤◌, ◌^◌, ◌==◌, Bool, true, if◌then◌else◌, List}
use Rattle.std.specs.Prelude.{length, slice_get, slice_index, slice_index_or, slice_set, Option, Some, None, ℤ, pos}
use Rattle.std.specs.Prelude.{◌+ℤ◌, ◌-ℤ◌, unsigned_abs}
use Rattle.def_matching.specs.Matching.{Vertex}
use Rattle.def_forest.specs.Darts.{Dart}
use Rattle.def_forest.specs.Forests.{Blossom, Forest, live_at, walk, ring_sum, set_at}
use Rattle.def_forest.specs.Tables.{ForestTables, forest_of, label_at, out_of, up_at, IsOutermostIn}
use Rattle.def_math.specs.Counts.{count_below}
use Rattle.forest_laws.specs.Walks.{listed, writes}
use Rattle.def_forest.specs.declared.kinds.Label.TheVariants.{Outer, Outside}
use Rattle.qm_forest.specs.Ties.{HasSameNest, fixed_of, labelled, left_alone, mated}
use Rattle.qm_pool.specs.declared.pool.Node.{Node}
use Rattle.qm_forest.specs.declared.tables.Handles.{Handles}
use Rattle.qm_forest.specs.declared.tables.Lists.{Lists}
use Rattle.qm_forest.specs.declared.tables.Rings.{Rings}

-- So many different blossoms follow each other.
pub record IsRow (size : ℕ) (after : List Blossom) (front many : ℕ) : Type 0 where
  pub some : 1 ≤ many
  pub low : (k : ℕ) → k < many → walk (slice_index after) front k < size
  pub distinct : (i j : ℕ) → i < j → j < many → walk (slice_index after) front i ≢ walk (slice_index after) front j

-- The vertices that a blossom's list has.
abbrev pub lists_at : (lists : Lists) (x : Blossom) (v : Vertex) → Bool
lists_at lists x v =
    listed (slice_index lists.following.items) (slice_index lists.first.items x) (slice_index lists.rank.items x) v

-- The list of a blossom is one of vertices, each of which has a handle and a small number.
pub record HasListAt (handles : Handles) (lists : Lists) (x : Blossom) : Type 0 where
  pub first : x < length lists.first.items
  pub rank : x < length lists.rank.items
  pub q : length handles.q.items ≡ length handles.hand.items
  pub following : length lists.following.items ≡ length handles.hand.items
  pub few : length handles.hand.items ≤ 2 ^ 26
  pub many : slice_index lists.rank.items x ≤ length handles.hand.items
  pub low : (k : ℕ) → k < slice_index lists.rank.items x
      → walk (slice_index lists.following.items) (slice_index lists.first.items x) k < length handles.hand.items
  pub distinct : (i j : ℕ) → i < j → j < slice_index lists.rank.items x
      → walk (slice_index lists.following.items) (slice_index lists.first.items x) i
      ≢ walk (slice_index lists.following.items) (slice_index lists.first.items x) j
  pub small : (v : Vertex) → unsigned_abs (slice_index_or handles.q.items v (pos 0)) ≤ 2 ^ 100

-- The list of a blossom is one of vertices.
pub record IsListAt (n : ℕ) (lists : Lists) (x : Blossom) : Type 0 where
  pub first : x < length lists.first.items
  pub rank : x < length lists.rank.items
  pub many : slice_index lists.rank.items x ≤ n
  pub low : (k : ℕ) → k < slice_index lists.rank.items x
      → walk (slice_index lists.following.items) (slice_index lists.first.items x) k < n

-- How much more the handle of one blossom adds than that of another.
abbrev pub differ_by : (handles : Handles) (lists : Lists) (x big : Blossom) → ℤ
differ_by handles lists x big =
    slice_index_or handles.off.items (slice_index lists.leader.items x) (pos 0)
    -ℤ slice_index_or handles.off.items (slice_index lists.leader.items big) (pos 0)

-- Two blossoms have leaders that are handles; if they are one blossom, its vertices have its handle.
pub record HasLeaders (handles : Handles) (lists : Lists) (x big : Blossom) : Type 0 where
  pub low_x : x < length lists.leader.items
  pub low_big : big < length lists.leader.items
  pub handle_x : slice_index lists.leader.items x < length handles.off.items
  pub handle_big : slice_index lists.leader.items big < length handles.off.items
  pub small_x : unsigned_abs (slice_index_or handles.off.items (slice_index lists.leader.items x) (pos 0)) ≤ 2 ^ 97
  pub small_big : unsigned_abs (slice_index_or handles.off.items (slice_index lists.leader.items big) (pos 0)) ≤ 2 ^ 97
  pub same : x ≡ big → (v : Vertex) → lists_at lists x v ≡ true
      → slice_index handles.hand.items v ≡ slice_index lists.leader.items big

-- The vertices of a blossom got another handle, and as much was added to their numbers.
pub record HasRenamed (old new : Handles) (lists : Lists) (x : Blossom) (handle : ℕ) (more : ℤ) : Type 0 where
  pub hand : (v : Vertex)
      → slice_index new.hand.items v ≡ (if lists_at lists x v then handle else slice_index old.hand.items v)
  pub q : (v : Vertex) → slice_index_or new.q.items v (pos 0)
      ≡ (if lists_at lists x v then slice_index_or old.q.items v (pos 0) +ℤ more
      else slice_index_or old.q.items v (pos 0))
  pub hands : length new.hand.items ≡ length old.hand.items
  pub qs : length new.q.items ≡ length old.q.items
  pub top : new.top ≡ old.top
  pub off : new.off ≡ old.off

-- The blossoms of a row have the lists of the vertices that are theirs, and leaders by which these are handled.
pub record HasListsOf (handles : Handles) (lists : Lists) (after : List Blossom) (front many : ℕ) : Type 0 where
  pub row : IsRow (length after) after front many
  pub each : (k : ℕ) → k < many → HasListAt handles lists (walk (slice_index after) front k)
  pub own : (k : ℕ) (v : Vertex) → k < many → v < length handles.hand.items
      → lists_at lists (walk (slice_index after) front k) v
      ≡ (out_of handles.hand.items handles.top.items v == walk (slice_index after) front k)
  pub leader : length lists.leader.items ≡ length after
  pub rank : length lists.rank.items ≡ length after
  pub leaders : (k : ℕ) → k < many
      → slice_index lists.leader.items (walk (slice_index after) front k) < length handles.off.items
  pub led : (v : Vertex) → v < length handles.hand.items
      → slice_index handles.hand.items v
      ≡ slice_index lists.leader.items (out_of handles.hand.items handles.top.items v)
  pub small_q : (v : Vertex) → unsigned_abs (slice_index_or handles.q.items v (pos 0)) ≤ 2 ^ 97
  pub small_off : (v : Vertex) → v < length handles.hand.items
      → unsigned_abs (slice_index_or handles.off.items (slice_index handles.hand.items v) (pos 0)) ≤ 2 ^ 97
  pub small_leaders : (k : ℕ) → k < many → unsigned_abs (slice_index_or handles.off.items
      (slice_index lists.leader.items (walk (slice_index after) front k)) (pos 0)) ≤ 2 ^ 97

-- A vertex lies in a blossom of the row, by the handles that were.
abbrev pub in_row : (handles : Handles) (after : List Blossom) (front many : ℕ) (v : Vertex) → Bool
in_row handles after front many v =
    listed (slice_index after) front many (out_of handles.hand.items handles.top.items v)

-- The vertices of all blossoms of a row got the handle of one of them, and their numbers what the handles added more.
pub record HasRenamedRow (old new : Handles) (lists : Lists) (after : List Blossom) (front many big : ℕ) : Type 0 where
  pub hand : (v : Vertex) → v < length old.hand.items → slice_index new.hand.items v
      ≡ (if in_row old after front many v then slice_index lists.leader.items big else slice_index old.hand.items v)
  pub q : (v : Vertex) → v < length old.hand.items → slice_index_or new.q.items v (pos 0)
      ≡ (if in_row old after front many v
      then (slice_index_or old.q.items v (pos 0) +ℤ slice_index_or old.off.items (slice_index old.hand.items v) (pos 0))
      -ℤ slice_index_or old.off.items (slice_index lists.leader.items big) (pos 0)
      else slice_index_or old.q.items v (pos 0))
  pub hands : length new.hand.items ≡ length old.hand.items
  pub qs : length new.q.items ≡ length old.q.items
  pub top : new.top ≡ old.top
  pub off : new.off ≡ old.off

-- The lists of a row can be joined: each end has a next vertex, and the numbers of all do not overflow.
pub record AreJoinable (lists : Lists) (after : List Blossom) (front many : ℕ) : Type 0 where
  pub row : IsRow (length after) after front many
  pub first : length lists.first.items ≡ length after
  pub last : length lists.last.items ≡ length after
  pub rank : length lists.rank.items ≡ length after
  pub ends : (k : ℕ) → k < many
      → slice_index lists.last.items (walk (slice_index after) front k) < length lists.following.items
  pub few : ring_sum (slice_index after) (slice_index lists.rank.items) front many ≤ 2 ^ 26

-- The lists of a row are joined to that of a set.
pub record AreJoined (old new : Lists) (after : List Blossom) (front many set : ℕ) : Type 0 where
  pub following : slice_index new.following.items ≡ writes (slice_index old.following.items)
      (λ k. slice_index old.last.items (walk (slice_index after) front k))
      (λ k. slice_index old.first.items (walk (slice_index after) front (suc k))) (many - 1)
  pub size : length new.following.items ≡ length old.following.items
  pub first : new.first.items ≡ slice_set old.first.items set (slice_index old.first.items front)
  pub last : new.last.items ≡ slice_set old.last.items set
      (slice_index old.last.items (walk (slice_index after) front (many - 1)))
  pub rank : new.rank.items ≡ slice_set old.rank.items set
      (ring_sum (slice_index after) (slice_index old.rank.items) front many)
  pub leader : new.leader ≡ old.leader

-- A row of the rings and the number of a set, where all tables are as long as there are numbers of blossoms.
pub record IsRowOf (rings : Rings) (front many set : ℕ) : Type 0 where
  pub row : IsRow (length rings.up.items) rings.after.items front many
  pub low : set < length rings.up.items
  pub after : length rings.after.items ≡ length rings.up.items
  pub head : length rings.head.items ≡ length rings.up.items
  pub parts : length rings.parts.items ≡ length rings.up.items

-- A row has got a set around it.
pub record AreEnclosed (old new : Rings) (front many set : ℕ) : Type 0 where
  pub up : up_at new.up.items ≡ writes (up_at old.up.items) (walk (slice_index old.after.items) front) (λ k. set) many
  pub size : length new.up.items ≡ length old.up.items
  pub head : new.head.items ≡ slice_set old.head.items set front
  pub parts : new.parts.items ≡ slice_set old.parts.items set many
  pub after : new.after ≡ old.after
  pub joint : new.joint ≡ old.joint

-- A free number is taken from the pool.
pub record TookSet (old new : List (Option Node)) (n set : ℕ) : Type 0 where
  pub id : ℕ
  pub is : set ≡ n + id
  pub free : slice_get old id ≡ Some None
  pub node : Node
  pub taken : new ≡ slice_set old id (Some node)

-- How many sets are in use.
abbrev pub live_sets : (t : ForestTables) → ℕ
live_sets t = count_below (live_at (length t.hand) (slice_index t.parts)) (length t.up)

-- A ring of outermost blossoms outside the tree, and room for a set more.
pub record IsFreeRing (t : ForestTables) (front many : ℕ) : Type 0 where
  pub row : IsRow (length t.up) t.after front many
  pub two : 2 ≤ many
  pub tops : (k : ℕ) → k < many → IsOutermostIn t (walk (slice_index t.after) front k)
  pub outside : (k : ℕ) → k < many → label_at t.label (walk (slice_index t.after) front k) ≡ Outside
  pub weightless : (x : Blossom) → length t.hand ≤ x → slice_index t.parts x ≡ 0 → (forest_of t).weight x ≡ pos 0
  pub room : 2 * live_sets t + 3 ≤ length t.hand
  pub root : (r : Blossom) → t.root ≡ Some r → IsOutermostIn t r

-- The marked blossoms have become the parts of set b, which was not in use. Nothing else is changed.
pub record IsGathered (n : ℕ) (f new : Forest) (inside : Blossom → Bool) (front many b : ℕ) : Type 0 where
  pub high : n ≤ b
  pub low : b < f.size
  pub no_parts : f.nest.parts b ≡ 0
  pub alone : f.nest.up b ≡ b
  pub around_none : (x : Blossom) → x ≢ b → f.nest.up x ≢ b
  pub no_out : (v : Vertex) → v < n → f.out v ≢ b
  pub outside : f.label b ≡ Outside
  pub size : new.size ≡ f.size
  pub holds_new : (v : Vertex) → v < n → new.holds b v ≡ inside (f.out v)
  pub holds_old : (x : Blossom) (v : Vertex) → x ≢ b → v < n → new.holds x v ≡ f.holds x v
  pub out : (v : Vertex) → v < n → new.out v ≡ (if inside (f.out v) then b else f.out v)
  pub weight : new.weight ≡ f.weight
  pub label : new.label ≡ f.label
  pub mate : new.mate ≡ f.mate
  pub link : new.link ≡ f.link
  pub after : new.nest.after ≡ f.nest.after
  pub joint : new.nest.joint ≡ f.nest.joint
  pub up : (x : Blossom) → new.nest.up x ≡ set_at (λ y. if inside y then b else f.nest.up y) b b x
  pub head : (x : Blossom) → new.nest.head x ≡ set_at f.nest.head b front x
  pub parts : (x : Blossom) → new.nest.parts x ≡ set_at f.nest.parts b many x
  pub rank : (x : Blossom) → x ≢ b → new.nest.rank x ≡ f.nest.rank x
  pub ranked : (x : Blossom) → inside x ≡ true → f.nest.rank x < new.nest.rank b

-- The set around the root takes its place.
abbrev pub root_around : (up : List Blossom) (set : Blossom) (root : Option Blossom) → Option Blossom
root_around up set None = None
root_around up set (Some r) = Some (if slice_index up r == set then set else r)

-- A ring has become one outer blossom b: its blossoms have left the tree, were gathered, and b got its place.
pub record HasClosed (old new : ForestTables) (top many : ℕ) (mate : Option Dart) : Type 0 where
  pub left : ForestTables
  pub gathered : ForestTables
  pub b : Blossom
  pub vertex : Vertex
  pub gone : forest_of left ≡ left_alone (forest_of old) top many
  pub same : HasSameNest old left
  pub is : IsGathered (length left.hand) (forest_of left) (forest_of gathered)
      (listed (slice_index left.after) top many)
      top many b
  pub holds : (forest_of gathered).out vertex ≡ b
  pub done : forest_of new
      ≡ mated (labelled (forest_of gathered) ((forest_of gathered).out vertex) Outer) b mate
  pub root : (r : Blossom) → old.root ≡ Some r
      → new.root ≡ Some (if listed (slice_index left.after) top many r then b else r)
  pub hand : length new.hand ≡ length old.hand
  pub fixed : fixed_of new ≡ fixed_of old
