use Rattle.std.proofs.Common.{◌≡◌, ◌+◌, ◌*◌, ◌≤◌, ◌++◌, length}
use Rattle.def_flow.specs.MatchingGraph.{rim_links}
use Rattle.qm_gadget.proofs.rim.push_rim.Given as goal

abbrev pub invariant-loop-rest : goal.invariant-loop-rest
invariant-loop-rest l = record {
  edges : l.edges.items ++ rim_links l.before l.fresh l.rest ≡ l.initial.edges.items ++ rim_links l.fn.lone l.fn.first
      l.rims;
  place : l.fresh + 2 * length l.rest ≤ l.fn.first + 2 * length l.rims;
}

abbrev pub decreases-loop-rest : goal.decreases-loop-rest
decreases-loop-rest l = length l.rest
