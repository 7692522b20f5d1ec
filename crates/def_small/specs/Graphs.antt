-- Graphs that are known to be small.
use Rattle.def_matching.specs.Matching.{WeightedGraph, IsSmallGraph}

-- A graph, and that it is small.
pub record Small : Type 0 where
  pub graph : WeightedGraph
  pub small : IsSmallGraph graph
