use Rattle.def_forest.specs.Made.{AreFirst}
use Rattle.qm_match.proofs.{Outcomes.first_feasible, Outcomes.made_first, matcher.Matcher.new_led.Goals.After-deref}
use Rattle.qm_match.proofs.matcher.Matcher.new_led.Goals as goal

first : (c : After-deref) → AreFirst c.args.g.now.graph c.deref.result.now
first c = rw c.deref.ensures.value c.in_ok-y.ensures

pub new_from-requires : goal.new_from-requires
new_from-requires c = first_feasible (first (goal.at.new_from-requires c).After-deref)

pub returns : goal.returns
returns c =
    let f = c.in_ok-forest.ensures in
    let y = first (goal.at.returns c).After-deref in
    record {
      made = made_first _ y.long (λ cheap. y.range) c.in_ok-search.ensures.same f.valid f.no_tree f.size f.weights;
    }
