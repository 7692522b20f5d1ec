use Rattle.std.proofs.Common.{ℕ, ◌<◌, get_or}
use Rattle.qm_match.specs.States.{IsRefreshed, IsFreshAt}

abbrev pub invariant-loop-k : Rattle.qm_match.proofs.search.Search.refresh_parts.Given.invariant-loop-k
invariant-loop-k l = record {
  refreshed : IsRefreshed l.g.graph l.fn.self l.self;
  here : (j : ℕ) → j < l.k → IsFreshAt l.g.graph l.self (get_or l.fn.self.parts.items j 0);
}
