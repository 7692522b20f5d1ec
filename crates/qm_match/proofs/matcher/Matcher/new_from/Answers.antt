use Rattle.qm_match.proofs.Outcomes.{first_feasible, made_first}
use Rattle.qm_match.proofs.matcher.Matcher.new_from.Goals as goal

pub new_from-requires : goal.new_from-requires
new_from-requires c = first_feasible c.requires.first

pub returns : goal.returns
returns c =
    let f = c.in_ok-forest.ensures in
    let y = c.requires.first in
    record {
      made = made_first _ y.long (λ cheap. y.range) c.in_ok-search.ensures.same f.valid f.no_tree f.size f.weights;
    }
