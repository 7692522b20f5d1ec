-- What the steps do to a forest.
use Rattle.std.specs.Prelude.{◌≡◌, ◌≢◌, ℤ, pos, ◌+ℤ◌, ◌-ℤ◌, Option, None, Some}
use Rattle.def_forest.specs.Darts.{Dart, Darts, far}
use Rattle.def_forest.specs.Forests.{Blossom, Forest, set_at}
use Rattle.def_forest.specs.declared.kinds.Label.{Label}
use Rattle.def_forest.specs.declared.kinds.Label.TheVariants.{Outer, Inner, Outside}

-- How a shift by t changes a weight.
abbrev pub weight_change : (l : Label) (t : ℤ) → ℤ
weight_change Outer t = t
weight_change Inner t = pos 0 -ℤ t
weight_change Outside t = pos 0

-- A shift adds t at outer blossoms and takes it away at inner ones.
abbrev pub shifted : (f : Forest) (t : ℤ) → Forest
shifted f t = record f { weight = λ b. f.weight b +ℤ weight_change (f.label b) t }

-- A blossom that is not matched becomes the root and the whole tree.
abbrev pub rooted : (f : Forest) (b : Blossom) → Forest
rooted f b = record f { label = set_at f.label b Outer }

-- The blossom that dart d reaches becomes inner and hangs on where d begins; what its mate m reaches becomes outer.
abbrev pub grown : (g : Darts) (f : Forest) (d m : Dart) → Forest
grown g f d m = record f {
  label = set_at (set_at f.label (f.out (far g d)) Inner) (f.out (far g m)) Outer;
  link = set_at f.link (f.out (far g d)) (g.twin d);
}

-- The tree has grown along dart d.
abbrev pub IsGrown : (g : Darts) (f new : Forest) (d : Dart) → Type 0
IsGrown g f new d = (m : Dart) × (f.mate (f.out (far g d)) ≡ Some m) × (new ≡ grown g f d m)

-- Nothing but the mates is changed, and no tree stands.
abbrev pub with_mates : (f : Forest) (mates : Blossom → Option Dart) → Forest
with_mates f mates = record f { label = λ b. Outside; mate = mates }

-- The root and the blossom that dart d reaches become matched, and no matched blossom ceases to be.
pub record IsAugmented (g : Darts) (f new : Forest) (root : Blossom) (d : Dart) : Type 0 where
  pub changed : new ≡ with_mates f new.mate
  pub root_matched : new.mate root ≢ None
  pub reached_matched : new.mate (f.out (far g d)) ≢ None
  pub others : (b : Blossom) → new.mate b ≡ None → f.mate b ≡ None
