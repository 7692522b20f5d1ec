-- The ends at each node.
use Rattle.std.specs.Prelude.{ℕ, ◌==◌, cond}
use Rattle.def_math.specs.Counts.{count}
use Rattle.def_flow.specs.Network.{Node, EndsBelow, ends}
use Rattle.def_flow.specs.declared.net.Arc.{Arc}

-- How many ends of an arc are at a node.
abbrev pub ends_at : (a : Arc) (v : Node) → ℕ
ends_at a v = count (λ e. cond (e.node == v) 1 0) (ends a)

-- The ends of an arc are below a bound.
abbrev pub HasEndsBelow : (nodes : ℕ) (a : Arc) → Type 0
HasEndsBelow nodes a = EndsBelow nodes a.left a.right
