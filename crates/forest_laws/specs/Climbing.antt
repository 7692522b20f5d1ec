-- Climbing the tree one blossom at a time, and the ring that an edge between two outer blossoms closes.
use Rattle.std.specs.Prelude.{◌≡◌, ℕ, ◌+◌, ◌-◌, ◌*◌, ◌≤◌, ◌==◌, nat_lt, if◌then◌else◌, Option, Some, None}
use Rattle.def_forest.specs.Darts.{Dart, Darts, far}
use Rattle.def_forest.specs.Forests.{Blossom, Forest, walk}
use Rattle.def_forest.specs.Ways.{dart_or, inner_of, steps}
use Rattle.def_forest.specs.declared.kinds.Label.{Label}
use Rattle.def_forest.specs.declared.kinds.Label.TheVariants.{Outer, Inner, Outside}

-- The dart by which a blossom hangs on the next one towards the root. The root has none.
abbrev pub rise_by : (label : Label) (mate : Option Dart) (link : Dart) → Option Dart
rise_by Outer mate link = mate
rise_by Inner mate link = Some link
rise_by Outside mate link = None

abbrev pub rise_of : (f : Forest) (b : Blossom) → Option Dart
rise_of f b = rise_by (f.label b) (f.mate b) (f.link b)

-- The next blossom towards the root.
abbrev pub above_of : (g : Darts) (f : Forest) (b : Blossom) → Blossom
above_of g f b = f.out (far g (dart_or (rise_of f b)))

-- How many blossoms the way to the root has after this one.
abbrev pub level_by : (label : Label) (own child : ℕ) → ℕ
level_by Outer own child = 2 * own
level_by Inner own child = 2 * child - 1
level_by Outside own child = 0

abbrev pub level_of : (g : Darts) (f : Forest) (b : Blossom) → ℕ
level_of g f b = level_by (f.label b) (steps g f (f.size + 1) b) (steps g f (f.size + 1) (inner_of g f b))

-- The blossom so many steps towards the root.
abbrev pub way_of : (g : Darts) (f : Forest) (a : Blossom) (steps : ℕ) → Blossom
way_of g f a steps = walk (above_of g f) a steps

-- Two climbers from a and c have come to x and y; no blossom that one of them left is on both ways.
pub record IsClimbing (g : Darts) (f : Forest) (a c x y : Blossom) (i j : ℕ) : Type 0 where
  pub x_is : x ≡ way_of g f a i
  pub y_is : y ≡ way_of g f c j
  pub x_low : i ≤ level_of g f a
  pub y_low : j ≤ level_of g f c
  pub left : (k m : ℕ) → k ≤ level_of g f a → m ≤ level_of g f c → way_of g f a k ≡ way_of g f c m → i ≤ k
  pub right : (k m : ℕ) → k ≤ level_of g f a → m ≤ level_of g f c → way_of g f a k ≡ way_of g f c m → j ≤ m

-- The blossom k steps from the top round the ring: down the way from a, over to c, and up the way from there.
abbrev pub ring_at : (g : Darts) (f : Forest) (a c : Blossom) (left k : ℕ) → Blossom
ring_at g f a c left k = if nat_lt left k then way_of g f c (k - left - 1) else way_of g f a (left - k)

-- The dart from there to the next, start being that from a to c.
abbrev pub ring_dart : (g : Darts) (f : Forest) (a c : Blossom) (left : ℕ) (start : Dart) (k : ℕ) → Dart
ring_dart g f a c left start k =
    if nat_lt k left then g.twin (dart_or (rise_of f (way_of g f a (left - k - 1))))
    else if k == left then start
    else dart_or (rise_of f (way_of g f c (k - left - 1)))
