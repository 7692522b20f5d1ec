use Rattle.std.proofs.{Common.◌≡◌, Common.◌∷◌, Common.[], Common.◌++◌, Common.arith, lemmas.Grind.common_steps}
use Rattle.qm_forest.proofs.Chosens.{marked_more, marked_same}
use Rattle.qm_forest.proofs.matchings.add_marked.Goals as goal

pub returns-then-marks-e-clause-marked : goal.returns-then-marks-e-clause-marked
returns-then-marks-e-clause-marked c =
    let pushed : c.push.new.self.items ≡ c.args.list.now.items ++ c.args.e ∷ [] = grind (arith, common_steps) in
    λ are. rw pushed (marked_more c.if-marks-e.true are)

pub returns-else-marks-e-clause-marked : goal.returns-else-marks-e-clause-marked
returns-else-marks-e-clause-marked c = λ are. marked_same c.if-marks-e.false are
