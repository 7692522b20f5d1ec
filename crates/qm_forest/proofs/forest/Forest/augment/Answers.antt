use Rattle.std.proofs.Common.{◌∙◌, false}
use Rattle.qm_forest.proofs.{MateRounds.reaches, Increases.none_of, OnWays.augmented}
use Rattle.qm_forest.proofs.forest.Forest.augment.Goals as goal

pub rematch-requires : goal.rematch-requires
rematch-requires c =
    let it = reaches c.args.g.now.small c.requires.valid.valid.feasible c.args.e c.requires.edge false (λ x. cc x)
    c.requires.kind in
    rw c.outer_dart-start.ensures.value (record { valid = c.requires.valid; reaches = it.0; free = none_of _ it.1 })

pub returns : goal.returns
returns c =
    let end = c.end_search.ensures in
    let same = c.rematch.ensures.same in
    let way = reaches c.args.g.now.small c.requires.valid.valid.feasible c.args.e c.requires.edge false (λ x. cc x)
    c.requires.kind in
    let it = augmented c.rematch.new.self c.end_search.new.self c.args.g.now.small c.requires.valid
    (rw (← c.outer_dart-start.ensures.value) at way.0) c.rematch.ensures.done c.rematch.ensures.seen end.seen
    (end.hand ∙ same.hand) end.root (end.fixed ∙ same.fixed) in
    record { changed = rw c.outer_dart-start.ensures.value at it.0; root = end.root; valid = it.1 }
