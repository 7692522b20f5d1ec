use Rattle.{std.proofs.Common.◌∙◌, std.proofs.Common.ap, def_forest.specs.Darts.darts_of}
use Rattle.{def_forest.specs.Tables.forest_of, qm_forest.proofs.Increases.laid_whole, qm_forest.proofs.OnWays.near_in}
use Rattle.qm_forest.proofs.forest.Forest.lay_ring.Goals as goal

pub outermost-a-requires : goal.outermost-a-requires
outermost-a-requires c = near_in c.args.g.now.small c.requires.valid _ c.requires.dart c.near.ensures

pub returns-clause-seen : goal.returns-clause-seen
returns-clause-seen c = laid_whole (darts_of c.args.g.now.graph) (forest_of c.args.self.now) c.args.start
    c.args.fork.left c.args.fork.right (c.outermost-a.ensures.value ∙ ap (forest_of c.args.self.now).out c.near.ensures)
    c.far_blossom-c.ensures.value c.lay_down.ensures.seen c.lay.ensures.seen c.lay_up.ensures.seen
