-- Lists by the number of units of each arc that are on.
use Rattle.std.specs.Prelude.{◌≡◌, ℕ, ◌+◌, ◌-◌, ◌*◌, ◌/◌, ◌%◌, ◌≤◌, ◌==◌, List, [], ◌∷◌}
use Rattle.def_flow.specs.Network.{Network}
use Rattle.def_flow.specs.Units.{low, cap, units, states, states_at, active, rim_active}
use Rattle.def_flow.specs.declared.net.Arc.{Arc}
use Rattle.gadget_laws.specs.Marks.{places, states_marks}

-- Each entry of ys is the low and j steps, with j at most the number of units.
abbrev pub IsRaised : (step : ℕ) (arcs : List Arc) (xs js ys : List ℕ) → Type 0
IsRaised step [] [] [] [] = Unit {0}
IsRaised step (a ∷ arcs) (x ∷ xs) (j ∷ js) (y ∷ ys) =
    (j ≤ cap step a x) × (y ≡ low step a x + j * step) × IsRaised step arcs xs js ys
IsRaised step _ _ _ _ = ⊥

-- How many steps each entry of a list is above its low.
abbrev pub ups : (step : ℕ) (lows ys : List ℕ) → List ℕ
ups step (l ∷ ls) (y ∷ ys) = ((y - l) / step) ∷ ups step ls ys
ups step _ _ = []

-- The matching that the list with js units on tells, in the matching graph of xs.
abbrev pub matching_told : (net : Network) (step : ℕ) (xs js : List ℕ) → List ℕ
matching_told net step xs js =
    let us = units net step net.arcs xs in
    places 0
    (states_marks net.nodes (λ v. active v us (states_at net step xs))
    (rim_active us (states_at net step xs) % 2 == 1) us (states step net.arcs xs js))
