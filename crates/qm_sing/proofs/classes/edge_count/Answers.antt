use Rattle.{std.proofs.Common.rules, qm_sing.proofs.Floods.one_more}

pub loop-d-preserved : Rattle.qm_sing.proofs.classes.edge_count.Goals.loop-d-preserved
loop-d-preserved c = search (rules, one_more)
