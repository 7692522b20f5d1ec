-- Networks: bidirected arcs between nodes.
use Rattle.std.specs.Prelude.{ℕ, ◌*◌, ◌^◌, ◌<◌, ◌≤◌, Bool, true, cond, ◌&&◌, ◌==◌, nat_le, nat_lt, IsTrue, List, ◌∷◌}
use Rattle.std.specs.Prelude.{length, option_to_list, slice_index_or, Option, Some, None}
use Rattle.std.specs.List.{list_all}
use Rattle.def_math.specs.Counts.{count, count_below}
use Rattle.def_flow.specs.declared.limits.TheConstants.{MAX_FLOOR, MAX_OLD, MAX_SCALE, MAX_WEIGHT}
use Rattle.def_flow.specs.declared.net.Arc.{Arc}
use Rattle.def_flow.specs.declared.net.End.{End}
use Rattle.def_flow.specs.declared.net.Net.{Net}

-- A node is a number, and so is an arc: its place in the list of all arcs.
abbrev pub Node : Type 0
Node = ℕ

abbrev pub ArcNumber : Type 0
ArcNumber = ℕ

-- A network. Its nodes are the numbers below a bound; wanted are lengths of at least the floors of the arcs, and as
-- near to p / q times the old ones as can be.
pub record Network : Type 0 where
  pub nodes : ℕ
  pub arcs : List Arc
  pub p : ℕ
  pub q : ℕ

-- The network that the program keeps.
abbrev pub network : (net : Net) → Network
network net = record { nodes = net.nodes; arcs = net.arcs.items; p = net.p; q = net.q }

-- The ends of an arc, one or two.
abbrev pub ends : (a : Arc) → List End
ends a = a.left ∷ option_to_list a.right

-- The one end or both ends of an arc are at nodes below a bound.
abbrev pub EndsBelow : (nodes : ℕ) (left : End) (right : Option End) → Type 0
EndsBelow nodes left None = left.node < nodes
EndsBelow nodes left (Some right) = (left.node < nodes) × (right.node < nodes)

-- The arc with number k; past the last one, an arc that nothing asks for.
abbrev pub arc_at : (arcs : List Arc) (k : ArcNumber) → Arc
arc_at arcs k =
    slice_index_or arcs k
    (record { left = record { node = 0; plus = true }; right = None; old = 0; weight = 0; floor = 0 })

-- An arc within bounds.
abbrev pub is_bounded : (nodes : ℕ) (a : Arc) → Bool
is_bounded nodes a =
    nat_le 1 a.weight && nat_le a.weight MAX_WEIGHT && nat_le a.old MAX_OLD
    && nat_le 1 a.floor && nat_le a.floor MAX_FLOOR && list_all (λ e. nat_lt e.node nodes) (ends a)

-- A network within bounds.
pub record IsWithinBounds (net : Network) : Type 0 where
  pub p_low : 1 ≤ net.p
  pub p_high : net.p ≤ MAX_SCALE
  pub q_low : 1 ≤ net.q
  pub q_high : net.q ≤ MAX_SCALE
  pub arcs : IsTrue (list_all (is_bounded net.nodes) net.arcs)
  pub few : length net.arcs < 2 ^ 32

-- How many ends there are at a node.
abbrev pub degree : (arcs : List Arc) (v : Node) → ℕ
degree arcs v = count (λ a. count (λ e. cond (e.node == v) 1 0) (ends a)) arcs

-- The tangle number: 16 times the square of the number of ends, over all nodes.
abbrev pub tangle_number : (net : Network) → ℕ
tangle_number net = count_below (λ v. 16 * (degree net.arcs v * degree net.arcs v)) net.nodes
