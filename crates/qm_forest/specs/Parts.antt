-- What parting a set into the blossoms of its ring needs, and what it leaves.
use Rattle.std.specs.Prelude.{◌≡◌, ◌≢◌, ℕ, ◌+◌, ◌-◌, ◌%◌, ◌<◌, ◌≤◌, ◌==◌, ◌⊎◌, Bool, true, false, if◌then◌else◌}
use Rattle.std.specs.Prelude.{List, length, slice_index, slice_index_or, slice_set, pos, Some, None}
use Rattle.def_matching.specs.Matching.{Vertex}
use Rattle.def_forest.specs.Darts.{Dart, other_dart}
use Rattle.def_forest.specs.Forests.{Blossom, Forest, walk, set_at}
use Rattle.def_forest.specs.Tables.{ForestTables, forest_of, label_at, up_at, IsOutermostIn}
use Rattle.def_forest.specs.declared.kinds.Label.{Label}
use Rattle.def_forest.specs.declared.kinds.Label.TheVariants.{Outer, Inner, Outside}
use Rattle.forest_laws.specs.Walks.{listed, writes}
use Rattle.qm_forest.specs.Gathers.{HasListAt, IsRow, lists_at}
use Rattle.qm_forest.specs.Ties.{HasSameNest, fixed_of, labelled, mated}
use Rattle.qm_forest.specs.declared.expanding.Course.{Course}
use Rattle.qm_forest.specs.declared.tables.Handles.{Handles}
use Rattle.qm_forest.specs.declared.tables.Lists.{Lists}
use Rattle.qm_forest.specs.declared.tables.Rings.{Rings}

-- The leaders of a part and of its set are handles; if they are one, the part's vertices have it.
pub record HasOwnLeader (handles : Handles) (lists : Lists) (x set : Blossom) : Type 0 where
  pub low_x : x < length lists.leader.items
  pub low_set : set < length lists.leader.items
  pub top : slice_index lists.leader.items x < length handles.top.items
  pub off : slice_index lists.leader.items x < length handles.off.items
  pub set_off : slice_index lists.leader.items set < length handles.off.items
  pub same : slice_index lists.leader.items x ≡ slice_index lists.leader.items set
      → (v : Vertex) → lists_at lists x v ≡ true → slice_index handles.hand.items v ≡ slice_index lists.leader.items x

-- The vertices of a part got its leader as their handle, which adds what that of the set adds.
pub record HasHandedOver (old new : Handles) (lists : Lists) (x set : Blossom) : Type 0 where
  pub hand : (v : Vertex) → slice_index new.hand.items v
      ≡ (if lists_at lists x v then slice_index lists.leader.items x else slice_index old.hand.items v)
  pub q : (v : Vertex) → slice_index_or new.q.items v (pos 0) ≡ slice_index_or old.q.items v (pos 0)
  pub hands : length new.hand.items ≡ length old.hand.items
  pub qs : length new.q.items ≡ length old.q.items
  pub top : new.top.items ≡ slice_set old.top.items (slice_index lists.leader.items x) x
  pub off : new.off.items ≡ slice_set old.off.items (slice_index lists.leader.items x)
      (slice_index_or old.off.items (slice_index lists.leader.items set) (pos 0))

-- The blossoms of a row have lists without a common vertex, leaders that are handles, and one handle: that of a set.
pub record HasPartLists (handles : Handles) (lists : Lists) (after : List Blossom) (front many set : ℕ) : Type 0 where
  pub row : IsRow (length after) after front many
  pub each : (k : ℕ) → k < many → HasListAt handles lists (walk (slice_index after) front k)
  pub apart : (i j : ℕ) (v : Vertex) → i < many → j < many → lists_at lists (walk (slice_index after) front i) v ≡ true
      → lists_at lists (walk (slice_index after) front j) v ≡ true → i ≡ j
  pub leader : length lists.leader.items ≡ length after
  pub set_low : set < length after
  pub offs : length handles.off.items ≡ length handles.top.items
  pub tops : (k : ℕ) → k < many
      → slice_index lists.leader.items (walk (slice_index after) front k) < length handles.top.items
  pub set_top : slice_index lists.leader.items set < length handles.top.items
  pub led : (k : ℕ) (v : Vertex) → k < many → lists_at lists (walk (slice_index after) front k) v ≡ true
      → slice_index handles.hand.items v ≡ slice_index lists.leader.items set

-- The vertices of all blossoms of a row got their own leaders as handles.
pub record HasHandedRow (old new : Handles) (lists : Lists) (after : List Blossom) (front many set : ℕ) : Type 0 where
  pub own : (k : ℕ) (v : Vertex) → k < many → lists_at lists (walk (slice_index after) front k) v ≡ true
      → slice_index new.hand.items v ≡ slice_index lists.leader.items (walk (slice_index after) front k)
  pub other : (v : Vertex) → ((k : ℕ) → k < many → lists_at lists (walk (slice_index after) front k) v ≡ false)
      → slice_index new.hand.items v ≡ slice_index old.hand.items v
  pub q : (v : Vertex) → slice_index_or new.q.items v (pos 0) ≡ slice_index_or old.q.items v (pos 0)
  pub hands : length new.hand.items ≡ length old.hand.items
  pub qs : length new.q.items ≡ length old.q.items
  pub top : slice_index new.top.items ≡ writes (slice_index old.top.items)
      (λ k. slice_index lists.leader.items (walk (slice_index after) front k)) (walk (slice_index after) front) many
  pub tops : length new.top.items ≡ length old.top.items
  pub off : (λ h. slice_index_or new.off.items h (pos 0)) ≡ writes (λ h. slice_index_or old.off.items h (pos 0))
      (λ k. slice_index lists.leader.items (walk (slice_index after) front k))
      (λ k. slice_index_or old.off.items (slice_index lists.leader.items set) (pos 0)) many
  pub offs : length new.off.items ≡ length old.off.items

-- A row has no set around it any more.
pub record AreOpened (old new : Rings) (front many set : ℕ) : Type 0 where
  pub up : up_at new.up.items ≡ writes (up_at old.up.items) (walk (slice_index old.after.items) front)
      (walk (slice_index old.after.items) front) many
  pub size : length new.up.items ≡ length old.up.items
  pub parts : new.parts.items ≡ slice_set old.parts.items set 0
  pub head : new.head ≡ old.head
  pub after : new.after ≡ old.after
  pub joint : new.joint ≡ old.joint

-- An outermost set of weight 0 outside the tree, whose ring are its parts.
pub record IsPartable (t : ForestTables) (b : Blossom) : Type 0 where
  pub high : length t.hand ≤ b
  pub low : b < length t.up
  pub top : IsOutermostIn t b
  pub outside : label_at t.label b ≡ Outside
  pub weightless : (forest_of t).weight b ≡ pos 0
  pub live : slice_index t.parts b ≢ 0
  pub row : IsRow (length t.up) t.after (slice_index t.head b) (slice_index t.parts b)
  pub around : (k : ℕ) → k < slice_index t.parts b
      → up_at t.up (walk (slice_index t.after) (slice_index t.head b) k) ≡ b
  pub other : (k : ℕ) → k < slice_index t.parts b → walk (slice_index t.after) (slice_index t.head b) k ≢ b
  pub all : (p : Blossom) → up_at t.up p ≡ b → p ≢ b
      → (k : ℕ) × (k < slice_index t.parts b) × (walk (slice_index t.after) (slice_index t.head b) k ≡ p)

-- A set was parted: the marked blossoms are outermost. Nothing else is changed.
pub record IsParted (n : ℕ) (f new : Forest) (inside : Blossom → Bool) (b : Blossom) : Type 0 where
  pub size : new.size ≡ f.size
  pub holds : (x : Blossom) (v : Vertex) → x ≢ b → v < n → new.holds x v ≡ f.holds x v
  pub holds_none : (v : Vertex) → v < n → new.holds b v ≡ false
  pub out : (v : Vertex) → v < n → f.out v ≡ (if inside (new.out v) then b else new.out v)
  pub holds_out : (v : Vertex) → v < n → f.holds (new.out v) v ≡ true
  pub own : (x : Blossom) (v : Vertex) → inside x ≡ true → v < n → f.holds x v ≡ true → new.out v ≡ x
  pub ended : (v : Vertex) → v < n → new.out v ≢ b
  pub together : (x : Blossom) (u v : Vertex) → u < n → v < n → x ≢ b → f.holds x u ≡ true → f.holds x v ≡ true
      → new.out u ≡ new.out v
  pub weight : new.weight ≡ f.weight
  pub label : new.label ≡ f.label
  pub mate : new.mate ≡ f.mate
  pub link : new.link ≡ f.link
  pub up : (x : Blossom) → new.nest.up x ≡ (if inside x then x else f.nest.up x)
  pub after : new.nest.after ≡ f.nest.after
  pub joint : new.nest.joint ≡ f.nest.joint
  pub head : new.nest.head ≡ f.nest.head
  pub parts : (x : Blossom) → new.nest.parts x ≡ set_at f.nest.parts b 0 x
  pub rank : new.nest.rank ≡ f.nest.rank

-- A set has left the tree and was parted.
pub record HasOpened (old new : ForestTables) (b : Blossom) : Type 0 where
  pub left : ForestTables
  pub gone : forest_of left ≡ mated (labelled (forest_of old) b Outside) b None
  pub same : HasSameNest old left
  pub is : IsParted (length left.hand) (forest_of left) (forest_of new)
      (listed (slice_index left.after) (slice_index left.head b) (slice_index left.parts b)) b
  pub root : new.root ≡ left.root
  pub hand : length new.hand ≡ length left.hand
  pub fixed : fixed_of new ≡ fixed_of left

-- The dart from a blossom of a ring to the next, or else to the one before.
abbrev pub side_dart : (f : Forest) (before x : Blossom) (forward : Bool) → Dart
side_dart f before x forward = if forward then f.nest.joint x else other_dart (f.nest.joint before)

-- So many blossoms of a ring are matched: those at odd places to the next, the others to the one before.
abbrev pub paired : (f : Forest) (front many : ℕ) → Forest
paired f front many = record f {
  mate = writes f.mate (walk f.nest.after front)
      (λ k. Some (side_dart f (walk f.nest.after front (k - 1)) (walk f.nest.after front k) (k % 2 == 1))) many;
}

-- The labels of a way in the tree that begins with an inner blossom.
abbrev pub turn_label : (k : ℕ) → Label
turn_label k = if k % 2 == 0 then Inner else Outer

-- So many blossoms of a ring are inner and outer by turns, and hang on the next, or else on the one before.
abbrev pub hung : (f : Forest) (front many : ℕ) (forward : Bool) → Forest
hung f front many forward = record f {
  label = writes f.label (walk f.nest.after front) turn_label many;
  link = writes f.link (walk f.nest.after front)
      (λ k. side_dart f (walk f.nest.after front (k - 1)) (walk f.nest.after front k) forward) many;
}

-- The way of even length between two blossoms of a ring: from the first to the last, or from the last to the first.
pub record IsCourse (next : ℕ → ℕ) (first last many : ℕ) (course : Course) : Type 0 where
  pub steps : ℕ
  pub low : steps < many
  pub at : walk next first steps ≡ last
  pub way : ((course.forward ≡ true) × (course.front ≡ first) × (course.many ≡ steps + 1) × (steps % 2 ≡ 0))
      ⊎ ((course.forward ≡ false) × (course.front ≡ last) × (course.many ≡ (many - steps) + 1) × (steps % 2 ≡ 1))
