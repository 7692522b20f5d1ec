-- The sums on one side of all nodes, as a table.
use Rattle.std.specs.Prelude.{ℕ, Bool, cond, List, slice_index}
use Rattle.def_math.specs.Counts.{count, count_below}
use Rattle.def_math.specs.Tables.{IsTally}
use Rattle.def_flow.specs.Network.{Node, arc_at, ends}
use Rattle.def_flow.specs.Admissible.{is_on_side}
use Rattle.def_flow.specs.declared.net.Arc.{Arc}
use Rattle.def_flow.specs.declared.net.End.{End}

-- What an end puts on one side of a node.
abbrev pub end_put : (plus : Bool) (e : End) (x : ℕ) (v : Node) → ℕ
end_put plus e x v = cond (is_on_side v plus e) x 0

-- What an arc puts there.
abbrev pub arc_put : (plus : Bool) (a : Arc) (x : ℕ) (v : Node) → ℕ
arc_put plus a x v = count (λ e. end_put plus e x v) (ends a)

-- What the first k arcs put there.
abbrev pub side_count : (arcs : List Arc) (xs : List ℕ) (plus : Bool) (k : ℕ) (v : Node) → ℕ
side_count arcs xs plus k v = count_below (λ i. arc_put plus (arc_at arcs i) (slice_index xs i) v) k

-- The table holds, for each node, what the first k arcs put on one side of it.
abbrev pub AreSides : (nodes : ℕ) (arcs : List Arc) (xs : List ℕ) (plus : Bool) (k : ℕ) (sums : List ℕ) → Type 0
AreSides nodes arcs xs plus k sums = IsTally (side_count arcs xs plus k) nodes sums
