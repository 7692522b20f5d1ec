use Rattle.std.proofs.lemmas.List.{Elements.All-tail, Sorted.All-permutation}
use Rattle.qm_warmstart.specs.Tables.{IsKey}
use Rattle.qm_warmstart.proofs.search.Search.next_beyond.Goals as goal

pub invariant_of-self-in-Some-clause-farther : goal.invariant_of-self-in-Some-clause-farther
invariant_of-self-in-Some-clause-farther c = let nodes = c.args.self.now.flow.cover.now.nodes in
    All-tail (IsKey nodes) _ _ (All-permutation (IsKey nodes) _ _ c.in-Some.ensures.permutation c.args.self.now.farther)
