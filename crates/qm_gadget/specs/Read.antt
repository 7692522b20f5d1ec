-- What is read off an increasing list of edges, unit by unit.
use Rattle.std.specs.Prelude.{ℕ, ◌+◌, ◌*◌, Bool, false, cond, nat_lt, List, [], ◌∷◌, take, drop}
use Rattle.def_flow.specs.declared.units.ArcUnit.{ArcUnit}
use Rattle.def_math.specs.Counts.{count}
use Rattle.def_flow.specs.Network.{Network}
use Rattle.def_flow.specs.Units.{active}
use Rattle.gadget_laws.specs.Marks.{trues}
use Rattle.gadget_laws.specs.Told.{width_by, marks_from, states_told}
use Rattle.def_flow.specs.Units.{units_over}
use Rattle.qm_gadget.specs.Ready.{own_states}

-- How many edges a unit has.
abbrev pub width_of_unit : (ℕ → ℕ) → ArcUnit → ℕ
width_of_unit copies_at u = width_by copies_at u.left u.right

-- Whether the first number of a list is below a bound.
abbrev pub first_below : List ℕ → ℕ → Bool
first_below [] end = false
first_below (e ∷ m) end = nat_lt e end

-- A list without the numbers in front that are below a bound.
abbrev pub skip_below : ℕ → List ℕ → List ℕ
skip_below end [] = []
skip_below end (e ∷ m) = cond (nat_lt e end) (skip_below end m) (e ∷ m)

-- The lengths where of each arc as many units are on as the states say.
abbrev pub lengths_by : ℕ → List ℕ → List ℕ → List Bool → List ℕ
lengths_by step (l ∷ ls) (c ∷ cs) ons = (l + trues (take c ons) * step) ∷ lengths_by step ls cs (drop c ons)
lengths_by step _ _ ons = []

-- The lengths that a list of edges tells, by lows and caps.
abbrev pub lengths_read : Network → ℕ → List ℕ → List ℕ → ℕ → List ℕ → List ℕ
lengths_read net step lows caps edges m =
    let us = units_over net step net.arcs lows caps in
    lengths_by step lows caps (states_told (λ v. active v us (own_states caps)) us (marks_from 0 edges m))

-- The number of all units' edges, by lows and caps.
abbrev pub widths_over : Network → ℕ → List ℕ → List ℕ → ℕ
widths_over net step lows caps =
    let us = units_over net step net.arcs lows caps in
    count (width_of_unit (λ v. active v us (own_states caps))) us
