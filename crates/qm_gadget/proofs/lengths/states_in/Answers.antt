use Rattle.std.proofs.{Common.rules, Common.append_assoc, lemmas.List.drop_more}
use Rattle.qm_gadget.proofs.Numbers.{increasing_skip, states_read}

pub loop-unit-preserved : Rattle.qm_gadget.proofs.lengths.states_in.Goals.loop-unit-preserved
loop-unit-preserved c = search (rules, drop_more, states_read, append_assoc, increasing_skip)
