use Rattle.std.proofs.Common.{ℕ, ◌^◌}
use Rattle.{def_forest.specs.Made.AreCostsBelow, qm_match.specs.Weights.HaveRoom, qm_match.proofs.Outcomes.made_first}
use Rattle.qm_match.proofs.{Outcomes.raised_first, matcher.Matcher.new.Goals.After-deref}
use Rattle.qm_match.proofs.matcher.Matcher.new.Goals as goal

have : (c : After-deref) (most : ℕ) → AreCostsBelow c.args.g.now.graph most
    → HaveRoom c.args.g.now.graph most c.deref.result.now
have c most below = rw c.deref.ensures.value (c.in_ok-y.ensures most below)

pub new_from-requires : goal.new_from-requires
new_from-requires c = let it = have (goal.at.new_from-requires c).After-deref (2 ^ 60) c.requires.costs in
    record { size = it.long; small = it.small; edges = it.feasible }

pub returns : goal.returns
returns c =
    let f = c.in_ok-forest.ensures in
    let room = have (goal.at.returns c).After-deref in
    record {
      made = made_first _ (room (2 ^ 60) c.requires.costs).long (λ cheap. (raised_first _ _ cheap room).range)
          c.in_ok-search.ensures.same f.valid f.no_tree f.size f.weights;
      small = λ most below b. rw (c.in_ok-search.ensures.same, f.weights b) ((room _ below).small b);
    }
