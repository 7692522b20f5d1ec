-- Perfect matchings of a graph, and their costs.
use Rattle.std.specs.Prelude.{◌≡◌, ℕ, ◌+◌, ◌*◌, ◌<◌, ◌≤◌, ◌≢◌, ◌==◌, if◌then◌else◌, List, map, length, ℤ, pos}
use Rattle.std.specs.Prelude.{unsigned_abs, slice_index_or}
use Rattle.def_math.specs.Counts.{count}
use Rattle.def_math.specs.Increasing.{IsIncreasing}
use Rattle.def_math.specs.Sums.{total}
use Rattle.def_matching.specs.declared.limits.TheConstants.{MAX_EDGES, MAX_PRODUCT, MAX_VERTICES}
use Rattle.def_matching.specs.declared.weighted.WEdge.{WEdge}
use Rattle.def_matching.specs.declared.weighted.WGraph.{WGraph}

-- A vertex is a number, and so is an edge: its place in the list of all edges.
abbrev pub Vertex : Type 0
Vertex = ℕ

abbrev pub EdgeNumber : Type 0
EdgeNumber = ℕ

-- A graph: the vertices 0 to n - 1, and a list of edges.
pub record WeightedGraph : Type 0 where
  pub n : ℕ
  pub edges : List WEdge

-- What a contract sees of a graph.
abbrev pub graph : (g : WGraph) → WeightedGraph
graph g = record { n = g.n; edges = g.edges.items }

-- The edge with a number.
abbrev pub edge_at : (g : WeightedGraph) (k : EdgeNumber) → WEdge
edge_at g k = slice_index_or g.edges k (record { u = 0; v = 0; cost = pos 0 })

-- Each edge has two different ends, both vertices of the graph.
pub record IsGraph (g : WeightedGraph) : Type 0 where
  pub left : (k : EdgeNumber) → k < length g.edges → (edge_at g k).u < g.n
  pub right : (k : EdgeNumber) → k < length g.edges → (edge_at g k).v < g.n
  pub apart : (k : EdgeNumber) → k < length g.edges → (edge_at g k).u ≢ (edge_at g k).v

-- A graph that the calls take, with few vertices and edges.
pub record IsSmallGraph (g : WeightedGraph) : Type 0 where
  pub lawful : IsGraph g
  pub vertices : g.n ≤ MAX_VERTICES
  pub edges : length g.edges ≤ MAX_EDGES

-- No sum of costs overflows: the number of vertices times the cost of an edge is small, up or down.
abbrev pub IsCheap : (g : WeightedGraph) → Type 0
IsCheap g = (k : EdgeNumber) → k < length g.edges → g.n * unsigned_abs (edge_at g k).cost ≤ MAX_PRODUCT

-- How many ends of an edge are at a vertex.
abbrev pub ends_at : (v : Vertex) (e : WEdge) → ℕ
ends_at v e = (if e.u == v then 1 else 0) + (if e.v == v then 1 else 0)

-- A perfect matching: increasing edge numbers, such that each vertex is an end of exactly one of these edges.
pub record IsPerfect (g : WeightedGraph) (m : List EdgeNumber) : Type 0 where
  pub increasing : IsIncreasing 0 (length g.edges) m
  pub once : (v : Vertex) → v < g.n → count (ends_at v) (map (edge_at g) m) ≡ 1

-- The cost of a matching is the sum of its edges' costs.
abbrev pub matching_cost : (g : WeightedGraph) (m : List EdgeNumber) → ℤ
matching_cost g m = total (λ e. e.cost) (map (edge_at g) m)
