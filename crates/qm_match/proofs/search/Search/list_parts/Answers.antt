use Rattle.std.proofs.Common.{rules, ◌≡◌, suc, ◌+◌, ◌++◌, [], ◌∷◌, arith}
use Rattle.{std.proofs.lemmas.Grind.common_steps, qm_forest.proofs.Chosens.copied_more}
use Rattle.qm_match.proofs.Stepped.{parts_few}
use Rattle.qm_match.proofs.search.Search.list_parts.Goals as goal

pub unwrap-requires : goal.unwrap-requires
unwrap-requires c = search (rules, parts_few)

pub loop-preserved : goal.loop-preserved
loop-preserved c =
    let one : suc c.loop.counter ≡ c.loop.counter + 1 = omega arith in search (rules, copied_more)
