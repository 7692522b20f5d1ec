use Rattle.std.proofs.{lemmas.List.Elements.All-head, lemmas.List.Sorted.All-permutation}
use Rattle.{qm_fraction.specs.Known.IsKey, qm_fraction.proofs.Popped.keys_left}
use Rattle.qm_fraction.proofs.search.Search.pop.Goals as goal

pub invariant_of-self : goal.invariant_of-self
invariant_of-self c = let s = c.args.self.now in record {
  same = s.same;
  known = record {
    below = s.known.below;
    near_below = s.known.near_below;
    keys = keys_left _ s.exits.vertices _ _ s.known.keys c.pop.result c.pop.ensures.permutation c.pop.ensures.unchanged;
  };
}

pub returns-in-Some-clause-vertex : goal.returns-in-Some-clause-vertex
returns-in-Some-clause-vertex c = let s = c.args.self.now in
    All-head (IsKey s.exits.vertices) _ _ (All-permutation (IsKey s.exits.vertices) _ _ c.in-Some.ensures.permutation
    s.known.keys)
