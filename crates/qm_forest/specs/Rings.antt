-- The ring that is laid before it becomes a set.
use Rattle.std.specs.Prelude.{◌≡◌, ◌≢◌, ℕ, suc, ◌≤◌}
use Rattle.def_matching.specs.Matching.{WeightedGraph}
use Rattle.def_forest.specs.Darts.{Dart, Darts, darts_of, far}
use Rattle.def_forest.specs.Forests.{Blossom, Forest, set_at}
use Rattle.def_forest.specs.Tables.{ForestTables, forest_of, IsValidFor}
use Rattle.def_forest.specs.Ways.{dart_or}
use Rattle.def_forest.specs.declared.kinds.Label.TheVariants.{Outside}
use Rattle.forest_laws.specs.Climbing.{rise_of, level_of, way_of}
use Rattle.forest_laws.specs.Walks.{writes}

-- A forest with other darts from blossom to blossom.
abbrev pub ringed : (f : Forest) (after : Blossom → Blossom) (joint : Blossom → Dart) → Forest
ringed f after joint = record f { nest = record f.nest { after = after; joint = joint } }

-- Only these tables may differ.
abbrev pub IsRingedAlike : (old new : ForestTables) → Type 0
IsRingedAlike old new = new ≡ record old { after = new.after; joint = new.joint }

-- A climber from a blossom has come to another, so many steps towards the root.
pub record HasClimbed (g : Darts) (f : Forest) (b at : Blossom) (count : ℕ) : Type 0 where
  pub way : at ≡ way_of g f b count
  pub low : count ≤ level_of g f b

-- So many steps from two blossoms there is one that is on the ways of both to the root.
pub record AreOnBoth (g : Darts) (f : Forest) (a c : Blossom) (left right : ℕ) : Type 0 where
  pub met : way_of g f a left ≡ way_of g f c right
  pub left_low : left ≤ level_of g f a
  pub right_low : right ≤ level_of g f c

-- The tables are those of a valid forest but for what is laid, and so many steps lead towards the root from a
-- blossom of its tree.
abbrev pub MayClimb : (g : WeightedGraph) (t : ForestTables) (a : Blossom) (steps : ℕ) → Type 0
MayClimb g t a steps = (s : ForestTables) × IsValidFor g s × IsRingedAlike s t × ((forest_of s).label a ≢ Outside)
    × (steps ≤ level_of (darts_of g) (forest_of s) a)

-- So many steps of the way from a are laid downwards, or upwards.
abbrev pub laid_down : (g : Darts) (f : Forest) (a : Blossom) (steps : ℕ) → Forest
laid_down g f a steps = ringed f
    (writes f.nest.after (λ i. way_of g f a (suc i)) (λ i. way_of g f a i) steps)
    (writes f.nest.joint (λ i. way_of g f a (suc i)) (λ i. g.twin (dart_or (rise_of f (way_of g f a i)))) steps)

abbrev pub laid_up : (g : Darts) (f : Forest) (c : Blossom) (steps : ℕ) → Forest
laid_up g f c steps = ringed f
    (writes f.nest.after (λ i. way_of g f c i) (λ i. way_of g f c (suc i)) steps)
    (writes f.nest.joint (λ i. way_of g f c i) (λ i. dart_or (rise_of f (way_of g f c i))) steps)

-- Both ways are laid, and dart start between them.
abbrev pub laid_ring : (g : Darts) (f : Forest) (start : Dart) (left right : ℕ) → Forest
laid_ring g f start left right =
    let down = laid_down g f (f.out (g.near start)) left in
    let over = ringed f (set_at down.nest.after (f.out (g.near start)) (f.out (far g start)))
    (set_at down.nest.joint (f.out (g.near start)) start) in
    laid_up g over (f.out (far g start)) right
