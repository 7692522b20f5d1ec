-- What the tables hold from which a matching graph is laid out.
use Rattle.std.specs.Prelude.{◌≡◌, ℕ, ◌+◌, ◌^◌, ◌<◌, ◌≤◌, List, length, slice_index, slice_index_or}
use Rattle.def_math.specs.Counts.{count_below}
use Rattle.std.specs.Prelude.{Option, Some, None}
use Rattle.std.specs.Coded.{×_prop, le_prop}
use Rattle.def_flow.specs.Network.{EndsBelow}
use Rattle.def_flow.specs.declared.net.End.{End}
use Rattle.def_flow.specs.declared.units.ArcUnit.{ArcUnit}

-- The number of copies of each node, by its list.
abbrev pub copies_in : (counts : List ℕ) (v : ℕ) → ℕ
copies_in counts v = slice_index counts v

-- The first copy of each node, and past the last node the number of all copies.
pub record AreFirsts (counts firsts : List ℕ) : Type 0 where
  pub count : length firsts ≡ length counts + 1
  pub each : (v : ℕ) → v ≤ length counts → slice_index firsts v ≡ count_below (copies_in counts) v
  pub few : count_below (copies_in counts) (length counts) < 2 ^ 26

-- The ends of a unit are at nodes.
abbrev pub IsAtNodes : (nodes : ℕ) (u : ArcUnit) → Type 0
IsAtNodes nodes u = EndsBelow nodes u.left u.right

-- The ends of all units are at nodes.
abbrev pub AreAtNodes : (nodes : ℕ) (us : List ArcUnit) → Type 0
AreAtNodes nodes us = (k : ℕ) (u : ArcUnit) → k < length us → IsAtNodes nodes (slice_index_or us k u)

-- In one way at most, so that a value may keep that they are.
pub EndsBelow-prop : (nodes : ℕ) (left : End) (right : Option End) → IsProp (EndsBelow nodes left right)
EndsBelow-prop nodes left None = le_prop
EndsBelow-prop nodes left (Some right) = ×_prop le_prop le_prop
