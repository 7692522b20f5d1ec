use Rattle.std.proofs.Common.{◌≡◌, ◌+◌, true, false, cond}
use Rattle.qm_match.specs.States.{GoesOn, HasEnded, IsIdle, IsUnderWay}
use Rattle.{def_forest.specs.Tables.forest_of, search_laws.specs.Searches.turns_left}
use Rattle.qm_match.proofs.search.Search.search.Given as goal

abbrev pub invariant-loop-ended : goal.invariant-loop-ended
invariant-loop-ended l = record {
  way : l.ended ≡ false → IsUnderWay l.g.graph l.self;
  goes_on : l.ended ≡ false → GoesOn l.g.graph.n l.fn.self.forest l.self.forest;
  idle : l.ended ≡ true → IsIdle l.g.graph l.self;
  first : l.self.first ≡ l.fn.self.first;
  end : l.ended ≡ true → HasEnded l.g.graph.n l.fn.self.forest l.self.forest;
}

abbrev pub decreases-loop-ended : goal.decreases-loop-ended
decreases-loop-ended l = cond l.ended 0 (1 + turns_left l.g.graph (forest_of l.self.forest) l.self.risen l.self.tour)
