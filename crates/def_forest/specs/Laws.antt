-- The laws of forests.
use Rattle.std.specs.Prelude.{◌≢◌, ◌*◌, ◌%◌, ◌<◌, ◌≤◌, ◌⊎◌, ◌+ℤ◌, ◌*ℤ◌, ◌≤ℤ◌, pos, List, ◌≡◌, ℕ, Bool, if◌then◌else◌, ℤ}
use Rattle.std.specs.Prelude.{length, Option, Some, None}
use Rattle.def_matching.specs.Matching.{WeightedGraph, EdgeNumber, IsGraph, IsPerfect, edge_at, matching_cost}
use Rattle.def_forest.specs.Darts.{Dart, Darts, AreDarts, darts_of, far}
use Rattle.def_forest.specs.Forests.{Blossom, Forest, IsOutermost, set_at, dual_sum_of, sets_of, blossom_size}
use Rattle.def_forest.specs.Steps.{shifted, rooted, grown, with_mates, IsAugmented}
use Rattle.def_forest.specs.Tables.{slack_of}
use Rattle.def_forest.specs.Valid.{AreOutermost, IsFeasible, IsNested, IsTree, IsValid}
use Rattle.def_forest.specs.declared.kinds.Label.TheVariants.{Outer}
use Rattle.def_forest.specs.Opened.{Opening, IsOpening, IsOpened}
use Rattle.def_forest.specs.Shrunk.{IsUnused, IsCycle, IsClosedRow, IsShrunk}
use Rattle.def_forest.specs.Ways.{Reaches, IsAlmost}

-- A shift whose end is feasible keeps a forest valid.
abbrev pub ShiftLaw : Type 0
ShiftLaw =
    (g : Darts) (f : Forest) (root : Option Blossom) (t : ℤ) → AreDarts g → IsValid g f root
    → IsFeasible g (shifted f t)
    → IsValid g (shifted f t) root

-- Where no tree stands, a blossom that is not matched may become the root.
abbrev pub RootLaw : Type 0
RootLaw =
    (g : Darts) (f : Forest) (b : Blossom) → AreDarts g → IsValid g f None → IsOutermost g.n f b → f.mate b ≡ None
    → IsValid g (rooted f b) (Some b)

-- A tree may grow along a tight dart to a matched blossom outside.
abbrev pub GrowLaw : Type 0
GrowLaw =
    (g : Darts) (f : Forest) (root : Blossom) (d m : Dart) → AreDarts g → IsValid g f (Some root) → Reaches g f d
    → f.mate (f.out (far g d)) ≡ Some m → IsValid g (grown g f d m) (Some root)

-- A matching that was changed up to the root is whole: the forest is valid, and no tree stands.
abbrev pub EndLaw : Type 0
EndLaw =
    (g : Darts) (f : Forest) (root : Blossom) (start : Dart) (mate : Blossom → Option Dart) (a : Blossom) (e : Dart)
    → AreDarts g → IsValid g f (Some root) → (tree : IsTree g f root) → IsAlmost g f tree.depth start mate a e
    → f.mate a ≡ None
    → IsValid g (with_mates f (set_at mate a (Some e))) None
    × IsAugmented g f (with_mates f (set_at mate a (Some e))) root start

-- A cycle of tight darts in the tree may become one outer blossom.
abbrev pub ShrinkLaw : Type 0
ShrinkLaw =
    (g : Darts) (f : Forest) (root : Blossom) (new : Forest) (inside : Blossom
    → Bool) (top b front : Blossom) (many : ℕ)
    → AreDarts g → IsValid g f (Some root) → (tree : IsTree g f root) → IsCycle g f root tree.depth inside top
    → IsUnused g.n f b
    → IsClosedRow g f new.nest.after new.nest.joint inside front many → IsShrunk g.n f new inside top b front many
    → IsValid g new (Some (if inside root then b else root))

-- An inner set of weight 0 may be opened.
abbrev pub ExpandLaw : Type 0
ExpandLaw =
    (g : Darts) (f : Forest) (root : Blossom) (new : Forest) (o : Opening) → AreDarts g → IsValid g f (Some root)
    → IsOpening g f o → IsOpened g f new o → IsValid g new (Some root)

-- A shift by t raises the sum of the weights by t: the tree has one outer blossom more than inner ones.
abbrev pub RiseLaw : Type 0
RiseLaw =
    (g : Darts) (f : Forest) (root : Blossom) (t : ℤ) → AreDarts g → IsValid g f (Some root)
    → dual_sum_of (shifted f t) ≡ (dual_sum_of f +ℤ t)

-- Each blossom holds an odd number of vertices.
abbrev pub OddLaw : Type 0
OddLaw =
    (g : Darts) (f : Forest) (b : Blossom) → AreDarts g → IsNested g f → (b < g.n) ⊎ ((g.n ≤ b) × (f.nest.parts b ≢ 0))
    → blossom_size g.n f b % 2 ≡ 1

-- Each set holds three vertices at least.
abbrev pub LargeLaw : Type 0
LargeLaw =
    (g : Darts) (f : Forest) (b : Blossom) → AreDarts g → IsNested g f → g.n ≤ b → f.nest.parts b ≢ 0
    → 3 ≤ blossom_size g.n f b

-- There are fewer than half as many sets as vertices where there is a vertex, and none where there is none.
abbrev pub FewLaw : Type 0
FewLaw =
    (g : Darts) (f : Forest) → AreDarts g → AreOutermost g.n f → IsNested g f
    → (0 < g.n → 2 * sets_of g.n f < g.n) × (g.n ≡ 0 → sets_of g.n f ≡ 0)

-- Twice the cost of each perfect matching is at least the sum of the weights.
abbrev pub BoundLaw : Type 0
BoundLaw =
    (g : WeightedGraph) (f : Forest) (root : Option Blossom) (m : List EdgeNumber)
    → IsGraph g → IsValid (darts_of g) f root → IsPerfect g m
    → dual_sum_of f ≤ℤ (pos 2 *ℤ matching_cost g m)

-- The slack between two outer blossoms is even.
abbrev pub EvenLaw : Type 0
EvenLaw =
    (g : WeightedGraph) (f : Forest) (root : Option Blossom) (e : EdgeNumber) → IsGraph g → IsValid (darts_of g) f root
    → e < length g.edges → f.label (f.out (edge_at g e).u) ≡ Outer → f.label (f.out (edge_at g e).v) ≡ Outer
    → (half : ℤ) × (slack_of g f e ≡ half +ℤ half)
