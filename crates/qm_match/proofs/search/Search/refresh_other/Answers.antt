use Rattle.std.proofs.Common.{rules}

pub returns-clause-here : Rattle.qm_match.proofs.search.Search.refresh_other.Goals.returns-clause-here
returns-clause-here c = rw c.mend_blossom.ensures.same (search rules)
