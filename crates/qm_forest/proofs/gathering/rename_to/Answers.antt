use Rattle.{std.proofs.Common.rules, std.proofs.lemmas.List.get_or_read}

pub returns-then-x-big : Rattle.qm_forest.proofs.gathering.rename_to.Goals.returns-then-x-big
returns-then-x-big c =
    let big_is = get_or_read c.args.lists.now.leader.items c.args.big _ c.requires.leaders.low_big
    c.index-handle.ensures 0 in
    let x_is = get_or_read c.args.lists.now.leader.items c.args.x _ c.requires.leaders.low_x c.index.ensures 0 in
    search rules
