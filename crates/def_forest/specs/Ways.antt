-- The way from an outer blossom to the root, and a matching that is being changed along it.
use Rattle.std.specs.Prelude.{◌≡◌, ◌≢◌, ℕ, zero, suc, ◌<◌, ◌≤◌, Option, Some, None, ◌⊎◌}
use Rattle.def_forest.specs.Darts.{Dart, Darts, far}
use Rattle.def_forest.specs.Forests.{Blossom, Forest, IsTight}
use Rattle.def_forest.specs.declared.kinds.Label.TheVariants.{Outer, Outside}

-- A dart goes from an outer blossom to one outside the tree.
pub record Reaches (g : Darts) (f : Forest) (d : Dart) : Type 0 where
  pub tight : IsTight g f d
  pub outer : f.label (f.out (g.near d)) ≡ Outer
  pub off : f.label (f.out (far g d)) ≡ Outside

-- The dart in an option, or dart 0.
abbrev pub dart_or : (mate : Option Dart) → Dart
dart_or None = 0
dart_or (Some d) = d

-- The inner blossom to which an outer one is matched, and the outer blossom on which that one hangs.
abbrev pub inner_of : (g : Darts) (f : Forest) (a : Blossom) → Blossom
inner_of g f a = f.out (far g (dart_or (f.mate a)))

abbrev pub parent_of : (g : Darts) (f : Forest) (a : Blossom) → Blossom
parent_of g f a = f.out (far g (f.link (inner_of g f a)))

-- How many outer blossoms the way to the root has after this one, counted no further than a bound.
abbrev pub steps_by : (mate : Option Dart) (more : ℕ) → ℕ
steps_by None more = 0
steps_by (Some d) more = suc more

abbrev pub steps : (g : Darts) (f : Forest) (bound : ℕ) (a : Blossom) → ℕ
steps g f zero a = 0
steps g f (suc k) a = steps_by (f.mate a) (steps g f k (parent_of g f a))

-- A matched dart in the midst of the change: what it leads to is matched back, or is blossom a, which waits.
pub record IsHalf (g : Darts) (f : Forest) (mate : Blossom
    → Option Dart) (a : Blossom) (e : Dart) (b : Blossom) (d : Dart) : Type 0 where
  pub tight : IsTight g f d
  pub here : f.out (g.near d) ≡ b
  pub other : f.out (far g d) ≢ b
  pub back : (mate (f.out (far g d)) ≡ Some (g.twin d))
      ⊎ ((f.out (far g d) ≡ a) × ((d ≡ g.twin e) ⊎ (f.mate a ≡ Some (g.twin d))))

-- The matching is changed from dart start on, up to outer blossom a, which is to be matched by dart e.
pub record IsAlmost (g : Darts) (f : Forest) (depth : Blossom → ℕ) (start : Dart) (mate : Blossom
    → Option Dart) (a : Blossom) (e : Dart) : Type 0 where
  pub outer : f.label a ≡ Outer
  pub tight : IsTight g f e
  pub here : f.out (g.near e) ≡ a
  pub reached : mate (f.out (far g e)) ≡ Some (g.twin e)
  pub above : (f.label (f.out (far g e)) ≡ Outside) ⊎ (depth a < depth (f.out (far g e)))
  pub kept : (b : Blossom) → f.label b ≢ Outside → depth b ≤ depth a → mate b ≡ f.mate b
  pub each : (b : Blossom) (d : Dart) → b ≢ a → mate b ≡ Some d → IsHalf g f mate a e b d
  pub more : (b : Blossom) → mate b ≡ None → f.mate b ≡ None
  pub begun : mate (f.out (far g start)) ≢ None
