-- A network with other floors.
use Rattle.std.specs.Prelude.{◌≡◌, ℕ, ◌<◌, List, length}
use Rattle.def_flow.specs.Network.{Network, arc_at}
use Rattle.def_flow.specs.declared.net.Arc.{Arc}
use Rattle.def_layout.specs.Lengths.{Lengths}

-- An arc with another floor.
abbrev pub at_floor : (floor : ℕ) (arc : Arc) → Arc
at_floor floor arc = record arc { floor = floor }

-- The floors of arcs.
abbrev pub floor_of : (arcs : List Arc) → Lengths
floor_of arcs k = (arc_at arcs k).floor

-- All arcs have these floors, and nothing else is different.
pub record HasFloors (net : Network) (floor : Lengths) (new : Network) : Type 0 where
  pub nodes : new.nodes ≡ net.nodes
  pub p : new.p ≡ net.p
  pub q : new.q ≡ net.q
  pub long : length new.arcs ≡ length net.arcs
  pub arcs : (k : ℕ) → k < length net.arcs → arc_at new.arcs k ≡ at_floor (floor k) (arc_at net.arcs k)
