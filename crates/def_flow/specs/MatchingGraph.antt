-- The matching graph of a list of lengths: its perfect matchings tell the lists nearby.
use Rattle.std.specs.Prelude.{ℕ, zero, suc, ◌+◌, ◌-◌, ◌*◌, ◌%◌, Bool, cond, not, ◌==◌, List, [], ◌∷◌, ◌++◌, length}
use Rattle.std.specs.Prelude.{Option, Some, None, ℤ, pos}
use Rattle.def_math.specs.Counts.{count, count_below}
use Rattle.def_matching.specs.Matching.{WeightedGraph, Vertex}
use Rattle.def_matching.specs.declared.weighted.WEdge.{WEdge}
use Rattle.def_flow.specs.Network.{Network, Node}
use Rattle.def_flow.specs.Units.{units, states_at, active, rim_active}
use Rattle.def_flow.specs.declared.net.End.{End}
use Rattle.def_flow.specs.declared.units.ArcUnit.{ArcUnit}

-- How many copies each node has. They are vertices, in order of the nodes.
abbrev pub Copies : Type 0
Copies = Node → ℕ

-- The edge from u to v.
abbrev pub link : (u v : Vertex) (cost : ℤ) → WEdge
link u v cost = record { u = u; v = v; cost = cost }

-- Edges from u to so many vertices in a row.
abbrev pub fan : (u : Vertex) (cost : ℤ) (first : Vertex) (many : ℕ) → List WEdge
fan u cost first zero = []
fan u cost first (suc n) = link u first cost ∷ fan u cost (first + 1) n

-- Edges from u to each copy of the node of an end. A plus end is paid for here.
abbrev pub to_copies : (copies_at : Copies) (u : Vertex) (cost : ℤ) (e : End) → List WEdge
to_copies copies_at u cost e = fan u (cond e.plus cost (pos 0)) (count_below copies_at e.node) (copies_at e.node)

-- The edge inside a unit, from its first vertex to its second. A minus end is paid for here.
abbrev pub inner_link : (first : Vertex) (cost : ℤ) (e : End) → WEdge
inner_link first cost e = link first (first + 1) (cond e.plus (pos 0) cost)

-- Whether two ends have like signs.
abbrev pub are_alike : (e f : End) → Bool
are_alike e f = cond e.plus f.plus (not f.plus)

-- The edges of a unit, by its first vertex. With unlike signs it has this vertex alone; with like signs it has one
-- for each end, and the second end is free; with one end it has one for the end, and one at the rim.
abbrev pub links_by : (copies_at : Copies) (first : Vertex) (cost : ℤ) (left : End) (right : Option End) → List WEdge
links_by copies_at first cost left None = to_copies copies_at first cost left ++ inner_link first cost left ∷ []
links_by copies_at first cost left (Some right) = cond (are_alike left right)
    (to_copies copies_at first cost left
    ++ (to_copies copies_at (first + 1) (pos 0) right ++ inner_link first cost left ∷ []))
    (to_copies copies_at first cost left ++ to_copies copies_at first cost right)

abbrev pub unit_links : (copies_at : Copies) (first : Vertex) (u : ArcUnit) → List WEdge
unit_links copies_at first u = links_by copies_at first u.cost u.left u.right

-- How many vertices a unit has.
abbrev pub size_by : (left : End) (right : Option End) → ℕ
size_by left None = 2
size_by left (Some right) = cond (are_alike left right) 2 1

abbrev pub unit_size : (u : ArcUnit) → ℕ
unit_size u = size_by u.left u.right

-- The edges of all units, by the first vertex of the first.
abbrev pub units_links : (copies_at : Copies) (first : Vertex) (us : List ArcUnit) → List WEdge
units_links copies_at first [] = []
units_links copies_at first (u ∷ us) = unit_links copies_at first u ++ units_links copies_at (first + unit_size u) us

-- A vertex is at the rim where its unit has one end.
abbrev pub with_rim : (right : Option End) (r : Vertex) (rs : List Vertex) → List Vertex
with_rim None r rs = r ∷ rs
with_rim (Some _) r rs = rs

-- The vertices at the rim, one for each unit of a one-ended arc: the second of the unit.
abbrev pub rim : (first : Vertex) (us : List ArcUnit) → List Vertex
rim first [] = []
rim first (u ∷ us) = with_rim u.right (first + 1) (rim (first + unit_size u) us)

-- The edge from a vertex that may be missing.
abbrev pub link_from : (before : Option Vertex) (v : Vertex) → List WEdge
link_from None v = []
link_from (Some b) v = link b v (pos 0) ∷ []

-- One rung of the ladder at the rim: the vertex r of the rim, and a fresh pair f, f + 1 between r and the next one.
-- Before stands the second vertex of the last pair, or the lone vertex, or nothing. With three vertices r, s, t:
--
--     b --- f     f+1 --- f+2     f+3
--      \   / \   /  \     / \   /  \        b r, r f, b f, f f+1
--        r    `-'     s     `-'      t       f+1 s, s f+2, f+1 f+2, f+2 f+3
--                                            f+3 t
abbrev pub rung : (before : Option Vertex) (fresh r : Vertex) → List WEdge
rung before fresh r =
    link_from before r ++ (link r fresh (pos 0) ∷ link_from before fresh ++ link fresh (fresh + 1) (pos 0) ∷ [])

-- The ladder that joins the vertices at the rim in pairs of matched ones: a rung for each but the last.
abbrev pub rim_links : (before : Option Vertex) (fresh : Vertex) (rs : List Vertex) → List WEdge
rim_links before fresh [] = []
rim_links before fresh (r ∷ []) = link_from before r
rim_links before fresh (r ∷ s ∷ rs) = rung before fresh r ++ rim_links (Some (fresh + 1)) (fresh + 2) (s ∷ rs)

-- The first vertex past the copies, the units and the lone vertex, where there is one.
abbrev pub first_fresh : (nodes : ℕ) (copies_at : Copies) (lone : Bool) (us : List ArcUnit) → Vertex
first_fresh nodes copies_at lone us = count_below copies_at nodes + count unit_size us + cond lone 1 0

-- The lone vertex, where there is one.
abbrev pub lone_vertex : (nodes : ℕ) (copies_at : Copies) (lone : Bool) (us : List ArcUnit) → Option Vertex
lone_vertex nodes copies_at lone us = cond lone (Some (count_below copies_at nodes + count unit_size us)) None

-- The graph of units over nodes with copies. Its vertices are the copies, those of the units, the lone vertex
-- where there is one, and the pairs at the rim.
abbrev pub graph_by : (nodes : ℕ) (copies_at : Copies) (lone : Bool) (us : List ArcUnit) → WeightedGraph
graph_by nodes copies_at lone us = record {
  n = first_fresh nodes copies_at lone us + 2 * (length (rim (count_below copies_at nodes) us) - 1);
  edges = units_links copies_at (count_below copies_at nodes) us
      ++ rim_links (lone_vertex nodes copies_at lone us) (first_fresh nodes copies_at lone us)
      (rim (count_below copies_at nodes) us);
}

-- The graph of units in their states: a copy for each active end, and a lone vertex where an odd number of
-- units of one-ended arcs are active.
abbrev pub graph_of_units : (nodes : ℕ) (us : List ArcUnit) (ons : List Bool) → WeightedGraph
graph_of_units nodes us ons = graph_by nodes (λ v. active v us ons) (rim_active us ons % 2 == 1) us

-- The matching graph of a list of lengths, with units a step long.
abbrev pub matching_graph : (net : Network) (step : ℕ) (xs : List ℕ) → WeightedGraph
matching_graph net step xs = graph_of_units net.nodes (units net step net.arcs xs) (states_at net step xs)
