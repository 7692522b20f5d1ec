-- Arcs with other floors, as loops give them.
use Rattle.std.specs.Prelude.{◌≡◌, ℕ, ◌<◌, ◌≤◌, List, length}
use Rattle.def_flow.specs.Network.{arc_at}
use Rattle.def_flow.specs.declared.net.Arc.{Arc}
use Rattle.def_layout.specs.Lengths.{Lengths}
use Rattle.def_layoutnet.specs.Floors.{at_floor}

-- The first n arcs have this floor, and the others are as they were.
pub record AreFloored (n floor : ℕ) (arcs new : List Arc) : Type 0 where
  pub long : length new ≡ length arcs
  pub done : (k : ℕ) → k < n → k < length arcs → arc_at new k ≡ at_floor floor (arc_at arcs k)
  pub left : (k : ℕ) → n ≤ k → k < length arcs → arc_at new k ≡ arc_at arcs k

-- The arcs have these floors, and nothing else is different.
pub record AreArcsAt (floor : Lengths) (arcs new : List Arc) : Type 0 where
  pub long : length new ≡ length arcs
  pub each : (k : ℕ) → k < length arcs → arc_at new k ≡ at_floor (floor k) (arc_at arcs k)
