use Rattle.{std.proofs.Common.◌∙◌, qm_match.proofs.Outcomes.ready_idle, qm_match.proofs.Outcomes.run_bounded}
use Rattle.qm_match.proofs.matcher.Matcher.run.Goals as goal

pub match_tight-requires-clause-idle : goal.match_tight-requires-clause-idle
match_tight-requires-clause-idle c = ready_idle c.args.g.now.small c.requires.cheap (c.args.known.now, c.requires.known)
    c.self.invariant (rw c.self.view_is c.requires.made)

pub returns-clause-bounded : goal.returns-clause-bounded
returns-clause-bounded c = λ first most each costs. run_bounded c.args.g.now.graph c.match_all.new.self c.self.invariant
    (c.match_all.ensures.first ∙ c.match_tight.ensures.first) first most (rw c.self.view_is each)
    (c.into_parts.ensures.bounded most costs)
