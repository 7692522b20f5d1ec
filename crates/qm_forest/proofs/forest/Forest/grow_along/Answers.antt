use Rattle.std.proofs.Common.{◌∙◌, sym}
use Rattle.qm_forest.proofs.OnWays.{mate_low, twin_dart}

pub near-requires : Rattle.qm_forest.proofs.forest.Forest.grow_along.Goals.near-requires
near-requires c = twin_dart c.args.g.now.small _ (mate_low c.args.g.now.small c.requires.valid _ _
    (sym c.mate.ensures ∙ c.in-Some.is)) c.twin-in-Some.ensures
