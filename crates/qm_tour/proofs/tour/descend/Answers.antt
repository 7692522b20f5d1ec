use Rattle.qm_tour.proofs.tour.descend.Goals as goal

pub child_alike-node-requires-clause-least : goal.child_alike-node-requires-clause-least
child_alike-node-requires-clause-least c = c.requires.nodes c.levels.node c.levels.invariant.root c.levels-test.true
