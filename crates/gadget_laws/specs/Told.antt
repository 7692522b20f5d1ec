-- The list of lengths that a perfect matching tells.
use Rattle.std.specs.Prelude.{ℕ, zero, suc, ◌+◌, ◌*◌, Bool, true, false, cond, not, ◌==◌, nat_lt, List, [], ◌∷◌, length}
use Rattle.std.specs.Prelude.{take, drop, Option, Some, None}
use Rattle.def_flow.specs.Network.{Network}
use Rattle.def_flow.specs.Units.{low, cap, units, states_at, active}
use Rattle.def_flow.specs.MatchingGraph.{are_alike, matching_graph}
use Rattle.def_flow.specs.declared.net.Arc.{Arc}
use Rattle.def_flow.specs.declared.net.End.{End}
use Rattle.def_flow.specs.declared.units.ArcUnit.{ArcUnit}
use Rattle.gadget_laws.specs.Marks.{trues}

-- What is left of a list when its first number is reached, or is not.
abbrev pub past : Bool → ℕ → List ℕ → List ℕ
past true e m = m
past false e m = e ∷ m

-- The marks of n edges, from edge k on, of which those of an increasing list are marked.
abbrev pub marks_from : ℕ → ℕ → List ℕ → List Bool
marks_from k zero m = []
marks_from k (suc n) [] = false ∷ marks_from (k + 1) n []
marks_from k (suc n) (e ∷ m) = (e == k) ∷ marks_from (k + 1) n (past (e == k) e m)

-- How many edges a unit has.
abbrev pub width_by : (ℕ → ℕ) → End → Option End → ℕ
width_by copies_at left None = copies_at left.node + 1
width_by copies_at left (Some right) =
    cond (are_alike left right) (copies_at left.node + (copies_at right.node + 1))
    (copies_at left.node + copies_at right.node)

-- A unit is on where one of the edges of its first end is marked and this is a plus end, or none is and it is a
-- minus end.
abbrev pub state_told : (ℕ → ℕ) → List Bool → End → Bool
state_told copies_at ms left =
    cond left.plus (nat_lt 0 (trues (take (copies_at left.node) ms)))
    (not (nat_lt 0 (trues (take (copies_at left.node) ms))))

abbrev pub states_told : (ℕ → ℕ) → List ArcUnit → List Bool → List Bool
states_told copies_at [] ms = []
states_told copies_at (u ∷ us) ms =
    state_told copies_at ms u.left ∷ states_told copies_at us (drop (width_by copies_at u.left u.right) ms)

-- The number of units of each arc that are on.
abbrev pub steps_told : ℕ → List Arc → List ℕ → List Bool → List ℕ
steps_told step (a ∷ arcs) (x ∷ xs) ons =
    trues (take (cap step a x) ons) ∷ steps_told step arcs xs (drop (cap step a x) ons)
steps_told step _ _ ons = []

-- The lengths with so many units on.
abbrev pub lengths_on : ℕ → List Arc → List ℕ → List ℕ → List ℕ
lengths_on step (a ∷ arcs) (x ∷ xs) (j ∷ js) = (low step a x + j * step) ∷ lengths_on step arcs xs js
lengths_on step _ _ _ = []

-- The list that a matching of the matching graph of xs tells.
abbrev pub lengths_told : Network → ℕ → List ℕ → List ℕ → List ℕ
lengths_told net step xs m =
    let us = units net step net.arcs xs in
    lengths_on step net.arcs xs
    (steps_told step net.arcs xs
    (states_told (λ v. active v us (states_at net step xs)) us
    (marks_from 0 (length (matching_graph net step xs).edges) m)))
