use Rattle.std.proofs.{Common.rules, lemmas.List.drop_more}

pub loop-k-preserved : Rattle.qm_gadget.proofs.states.is_rim_odd.Goals.loop-k-preserved
loop-k-preserved c = search (rules, drop_more)
