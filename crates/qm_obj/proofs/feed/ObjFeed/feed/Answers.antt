use Rattle.qm_obj.proofs.{FeedLemmas.stands_more, FeedLemmas.stands_refused, FeedLemmas.stands_still}
use Rattle.{def_text.specs.declared.refusal.ObjFail.TheVariants.Memory, std.proofs.lemmas.Result.on_ok_weaker}
use Rattle.std.proofs.Common.{◌≢◌}
use Rattle.qm_obj.proofs.feed.ObjFeed.feed.Goals as goal

pub returns-then-is_some : goal.returns-then-is_some
returns-then-is_some c = rw (← c.self.view_is) (λ text stands. stands_still _ c.if-is_some.ensures stands)

pub returns-in-Ok : goal.returns-in-Ok
returns-in-Ok c = rw (← c.self.view_is) (λ text stands. stands_more c.if-is_some.ensures c.in-Ok.ensures.took stands)

pub returns-in-Err : goal.returns-in-Err
returns-in-Err c = rw (← c.self.view_is) (on_ok_weaker c.only_memory.result (λ (other : c.in-Err.fail ≢ Memory) text
    stands. stands_refused _ _ c.if-is_some.ensures (c.in-Err.ensures.refused other) stands) c.only_memory.ensures)
