use Rattle.std.proofs.{Common.◌≡◌, Common.◌∷◌, Common.[], Common.◌++◌, Common.arith, lemmas.Grind.common_steps}
use Rattle.qm_forest.proofs.Waitings.{sets_more}
use Rattle.qm_forest.proofs.forest.Forest.list_set.Goals as goal

pub returns-then-parts-ne0-clause-has : goal.returns-then-parts-ne0-clause-has
returns-then-parts-ne0-clause-has c =
    let pushed : c.push.new.self.items ≡ c.args.sets.now.items ++ (c.size.result, c.args.b) ∷ [] =
    grind (arith, common_steps) in
    λ has. rw (pushed, c.size.ensures) (sets_more c.requires.high (rw c.parts.ensures at c.if-parts-ne0.true) has)
