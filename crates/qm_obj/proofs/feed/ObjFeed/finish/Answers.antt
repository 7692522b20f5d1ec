use Rattle.qm_obj.proofs.FeedLemmas.{stands_end, refused_as}
use Rattle.std.proofs.{lemmas.Result.IfOk-weaker, Common.refl}
use Rattle.qm_obj.proofs.feed.ObjFeed.finish.Goals as goal

pub returns-in-Some-clause-refused : goal.returns-in-Some-clause-refused
returns-in-Some-clause-refused c = λ _. rw (← c.self.view_is) (λ text stands. stands_end (rw c.in-Some.is refl) stands)

pub returns-clause-soup : goal.returns-clause-soup
returns-clause-soup c = rw (← c.self.view_is) (IfOk-weaker c.finish.result _ _ (λ soup is text stands. stands_end
    (rw c.in_default.is is) stands) c.finish.ensures.soup)

pub returns-clause-refused : goal.returns-clause-refused
returns-clause-refused c = rw (← c.self.view_is) (refused_as c.finish.result c.finish.ensures.refused
    (λ fail is text stands. stands_end (rw c.in_default.is is) stands))
