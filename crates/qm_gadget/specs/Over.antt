-- The lows and caps that a gadget keeps, and the tables that count the active ends of units.
use Rattle.std.specs.Prelude.{◌≡◌, ℕ, ◌^◌, ◌<◌, ◌≤◌, Bool, cond, ◌&&◌, ◌==◌, List}
use Rattle.std.specs.Prelude.{length, slice_index}
use Rattle.def_math.specs.Tables.{IsTally}
use Rattle.def_flow.specs.Units.{is_active, active}
use Rattle.def_flow.specs.declared.net.End.{End}
use Rattle.def_flow.specs.declared.units.ArcUnit.{ArcUnit}

-- One low and one cap for each arc, both small.
pub record AreBoxes (arcs : ℕ) (lows caps : List ℕ) : Type 0 where
  pub lows_count : length lows ≡ arcs
  pub caps_count : length caps ≡ arcs
  pub low : (k : ℕ) → k < arcs → slice_index lows k ≤ 10 ^ 12
  pub least : (k : ℕ) → k < arcs → 2 ≤ slice_index caps k
  pub most : (k : ℕ) → k < arcs → slice_index caps k ≤ 4

-- 1 at the node of an end, where it is active.
abbrev pub end_active : (e : End) (on : Bool) (v : ℕ) → ℕ
end_active e on v = cond ((e.node == v) && is_active on e) 1 0

-- The number of active unit ends at each node.
abbrev pub AreCounts : (nodes : ℕ) (us : List ArcUnit) (ons : List Bool) (counts : List ℕ) → Type 0
AreCounts nodes us ons counts = IsTally (λ v. active v us ons) nodes counts
