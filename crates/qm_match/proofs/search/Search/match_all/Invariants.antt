use Rattle.search_laws.specs.Searches.{AreMatchedBefore}
use Rattle.{std.proofs.Common.◌≡◌, def_forest.specs.Tables.forest_of, qm_match.specs.States.IsIdle}

abbrev pub invariant-loop-v : Rattle.qm_match.proofs.search.Search.match_all.Given.invariant-loop-v
invariant-loop-v l = record {
  idle : IsIdle l.g.graph l.self;
  done : AreMatchedBefore (forest_of l.self.forest) l.v;
  first : l.self.first ≡ l.fn.self.first;
}
