use Rattle.std.proofs.{Common.◌<◌, lemmas.List.Elements.All-push, lemmas.List.Elements.All-same}
use Rattle.qm_fraction.proofs.Popped.{keys_more}
use Rattle.qm_fraction.proofs.search.Search.reach.Goals as goal

pub invariant_of-self-else-distance-self-2 : goal.invariant_of-self-else-distance-self-2
invariant_of-self-else-distance-self-2 c = let s = c.args.self.now in let n = s.exits.vertices in
    let p = c.push-else-distance-self-2 in record {
      same = s.same;
      known = record {
        below = All-same (λ v. v < n) _ _ c.in_ok-push.ensures.items
            (All-push (λ v. v < n) _ c.args.exit.to s.known.below c.requires);
        near_below = s.known.near_below;
        keys = keys_more _ n _ _ s.known.keys _ p.result c.requires p.ensures.permutation p.ensures.unchanged;
      };
    }
