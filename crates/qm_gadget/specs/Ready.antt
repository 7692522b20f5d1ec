-- What a plan of a matching graph holds, and what it needs.
use Rattle.std.specs.Prelude.{◌≡◌, ℕ, ◌-◌, ◌%◌, ◌^◌, ◌≤◌, ◌==◌, Bool, List, length, map}
use Rattle.def_flow.specs.Network.{Network}
use Rattle.def_matching.specs.Matching.{WeightedGraph}
use Rattle.def_flow.specs.MatchingGraph.{graph_of_units}
use Rattle.def_flow.specs.Units.{active, rim_active}
use Rattle.gadget_laws.specs.Marks.{states_marks}
use Rattle.qm_gadget.specs.Layout.{AreAtNodes}
use Rattle.def_flow.specs.Units.{units_over, states_over}
use Rattle.qm_gadget.specs.Over.{AreBoxes, AreCounts}
use Rattle.qm_gadget.specs.declared.plan.Plan.{Plan}

-- Lows and caps of a list whose units are few, with their ends at nodes.
pub record IsReady (net : Network) (step : ℕ) (lows caps : List ℕ) : Type 0 where
  pub boxes : AreBoxes (length net.arcs) lows caps
  pub few : length (units_over net step net.arcs lows caps) ≤ 2 ^ 25
  pub at : AreAtNodes net.nodes (units_over net step net.arcs lows caps)

-- The states at the list itself, by its caps: all that it can give up are on.
abbrev pub own_states : List ℕ → List Bool
own_states caps = states_over caps (map (λ c. c - 2) caps)

-- The plan of the list with these lows and caps.
pub record IsPlan (net : Network) (step : ℕ) (lows caps : List ℕ) (p : Plan) : Type 0 where
  pub units : p.units.items ≡ units_over net step net.arcs lows caps
  pub counts : AreCounts net.nodes (units_over net step net.arcs lows caps) (own_states caps) p.counts.items
  pub lone : p.lone ≡ (rim_active (units_over net step net.arcs lows caps) (own_states caps) % 2 == 1)

-- The marks of the edges that the list with so many units on chooses.
abbrev pub marks_over : Network → ℕ → List ℕ → List ℕ → List ℕ → List Bool
marks_over net step lows caps js =
    let us = units_over net step net.arcs lows caps in
    states_marks net.nodes (λ v. active v us (own_states caps)) (rim_active us (own_states caps) % 2 == 1) us
    (states_over caps js)

-- The graph of the units with these lows and caps.
abbrev pub graph_by_lows : Network → ℕ → List ℕ → List ℕ → WeightedGraph
graph_by_lows net step lows caps = graph_of_units net.nodes (units_over net step net.arcs lows caps) (own_states caps)
