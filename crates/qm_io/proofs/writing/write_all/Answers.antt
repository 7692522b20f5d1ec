use Rattle.{std.proofs.Common.rules, qm_io.proofs.Cuts.prefix_more, qm_io.proofs.Cuts.rest_more}

pub loop-rest-preserved : Rattle.qm_io.proofs.writing.write_all.Goals.loop-rest-preserved
loop-rest-preserved g c = search (rules, rest_more, prefix_more)
