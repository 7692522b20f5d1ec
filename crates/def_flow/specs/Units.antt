-- Units: stretches of an arc's length, a step long, that are on up to the arc's length and off from there.
use Rattle.std.specs.Prelude.{ℕ, zero, suc, ◌+◌, ◌-◌, ◌*◌, ◌/◌, min, Bool, true, false, cond, not, ◌&&◌, ◌==◌}
use Rattle.std.specs.Prelude.{List, [], ◌∷◌, ◌++◌, option_to_list, Option, Some, None, ℤ, pos, ◌+ℤ◌, ◌-ℤ◌}
use Rattle.def_math.specs.Counts.{count}
use Rattle.def_flow.specs.Network.{Network, Node}
use Rattle.def_flow.specs.Admissible.{arc_deviation}
use Rattle.def_flow.specs.declared.net.Arc.{Arc}
use Rattle.def_flow.specs.declared.net.End.{End}
use Rattle.def_flow.specs.declared.units.ArcUnit.{ArcUnit}

-- How many steps an arc of length x can give up, at most 2 of them.
abbrev pub down : (step : ℕ) (a : Arc) (x : ℕ) → ℕ
down step a x = min 2 ((x - a.floor) / step)

-- The least length that the units of an arc of length x can give.
abbrev pub low : (step : ℕ) (a : Arc) (x : ℕ) → ℕ
low step a x = x - down step a x * step

-- The number of units of an arc of length x: those that it can give up, and 2 to gain.
abbrev pub cap : (step : ℕ) (a : Arc) (x : ℕ) → ℕ
cap step a x = down step a x + 2

-- What f makes of each arc and its entry of a list.
abbrev pub arcwise : (f : Arc → ℕ → ℕ) (arcs : List Arc) (xs : List ℕ) → List ℕ
arcwise f (a ∷ arcs) (x ∷ xs) = f a x ∷ arcwise f arcs xs
arcwise f _ _ = []

-- Unit k of an arc from this low on: it costs the arc's deviation at its upper end less that at its lower end.
abbrev pub unit_at : (net : Network) (step : ℕ) (a : Arc) (low k : ℕ) → ArcUnit
unit_at net step a low k = record {
  left = a.left;
  right = a.right;
  cost = pos (arc_deviation net a (pos (low + (k + 1) * step))) -ℤ pos (arc_deviation net a (pos (low + k * step)));
}

-- So many units of an arc, from unit k on.
abbrev pub units_from : (net : Network) (step : ℕ) (a : Arc) (low k many : ℕ) → List ArcUnit
units_from net step a l k zero = []
units_from net step a l k (suc n) = unit_at net step a l k ∷ units_from net step a l (k + 1) n

-- All units, in order of the arcs, where each arc has its low and its cap.
abbrev pub units_over : (net : Network) (step : ℕ) (arcs : List Arc) (lows caps : List ℕ) → List ArcUnit
units_over net step (a ∷ arcs) (l ∷ ls) (c ∷ cs) = units_from net step a l 0 c ++ units_over net step arcs ls cs
units_over net step _ _ _ = []

-- The units at the list xs.
abbrev pub units : (net : Network) (step : ℕ) (arcs : List Arc) (xs : List ℕ) → List ArcUnit
units net step arcs xs = units_over net step arcs (arcwise (low step) arcs xs) (arcwise (cap step) arcs xs)

-- The states of so many units, of which the first are on.
abbrev pub run : (on many : ℕ) → List Bool
run on zero = []
run zero (suc n) = false ∷ run zero n
run (suc on) (suc n) = true ∷ run on n

-- The states of all units, where of each arc as many are on as js says.
abbrev pub states_over : (caps js : List ℕ) → List Bool
states_over (c ∷ cs) (j ∷ js) = run j c ++ states_over cs js
states_over _ _ = []

-- The states of all units at the list xs, where of each arc as many are on as js says.
abbrev pub states : (step : ℕ) (arcs : List Arc) (xs js : List ℕ) → List Bool
states step arcs xs js = states_over (arcwise (cap step) arcs xs) js

-- The states of all units at the list xs itself.
abbrev pub states_at : (net : Network) (step : ℕ) (xs : List ℕ) → List Bool
states_at net step xs = states step net.arcs xs (arcwise (down step) net.arcs xs)

-- An end with sign plus is active at a unit that is on, one with sign minus at a unit that is off.
abbrev pub is_active : (on : Bool) (e : End) → Bool
is_active on e = cond e.plus on (not on)

-- How many active ends a unit has at a node.
abbrev pub active_at : (v : Node) (u : ArcUnit) (on : Bool) → ℕ
active_at v u on = count (λ e. cond ((e.node == v) && is_active on e) 1 0) (u.left ∷ option_to_list u.right)

-- How many active unit ends there are at a node.
abbrev pub active : (v : Node) (us : List ArcUnit) (ons : List Bool) → ℕ
active v (u ∷ us) (on ∷ ons) = active_at v u on + active v us ons
active v _ _ = 0

-- 1 where a unit has one end, and this is active.
abbrev pub alone_active : (left : End) (right : Option End) (on : Bool) → ℕ
alone_active left None on = cond (is_active on left) 1 0
alone_active left (Some _) on = 0

-- How many active units of one-ended arcs there are.
abbrev pub rim_active : (us : List ArcUnit) (ons : List Bool) → ℕ
rim_active (u ∷ us) (on ∷ ons) = alone_active u.left u.right on + rim_active us ons
rim_active _ _ = 0

-- The costs of the units that are on.
abbrev pub cost_on : (us : List ArcUnit) (ons : List Bool) → ℤ
cost_on (u ∷ us) (on ∷ ons) = cond on u.cost (pos 0) +ℤ cost_on us ons
cost_on _ _ = pos 0

-- The costs of the units that are on at the list xs.
abbrev pub on_cost : (net : Network) (step : ℕ) (xs : List ℕ) → ℤ
on_cost net step xs = cost_on (units net step net.arcs xs) (states_at net step xs)
