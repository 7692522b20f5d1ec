use Rattle.std.proofs.Common.{rules, ◌≡◌, arith, below_more, get_or}
use Rattle.std.proofs.lemmas.List.{get_or_read}
use Rattle.qm_match.proofs.Chains.{may_later, refreshed_on, stays_fresh}
use Rattle.{qm_match.specs.States.IsFreshAt, qm_match.proofs.search.Search.refresh_parts.Goals.After-index-p}
use Rattle.qm_match.proofs.search.Search.refresh_parts.Goals as goal

p_is : (c : After-index-p) → c.index-p.result.now ≡ get_or c.args.self.now.parts.items c.loop-k.k 0
p_is c = search (rules, get_or_read)

pub refresh-requires : goal.refresh-requires
refresh-requires c = rw (p_is _) (may_later c.loop-k.invariant.refreshed (c.requires.may c.loop-k.k (omega arith)))

pub loop-k-preserved : goal.loop-k-preserved
loop-k-preserved c = record {
  refreshed = refreshed_on c.loop-k.invariant.refreshed c.refresh.ensures.refreshed;
  here = below_more (λ j. IsFreshAt _ _ _) _ (λ j l. stays_fresh c.refresh.ensures.refreshed
      (c.loop-k.invariant.here j l)) (search (rules, p_is));
}
