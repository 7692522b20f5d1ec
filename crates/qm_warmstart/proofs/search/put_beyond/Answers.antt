use Rattle.std.proofs.{lemmas.List.Elements.All-cons, lemmas.List.Sorted.All-permutation}
use Rattle.qm_warmstart.specs.Tables.{IsKey}

pub returns : Rattle.qm_warmstart.proofs.search.put_beyond.Goals.returns
returns c = λ nodes below all.
    All-permutation (IsKey nodes) _ _ c.in_ok-push.ensures.permutation (All-cons (IsKey nodes) _ _ below all)
