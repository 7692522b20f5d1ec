use Rattle.{std.proofs.Common.rules, qm_gadget.proofs.Numbers.marks_step, qm_gadget.proofs.Numbers.rim_step}

pub loop-i-preserved : Rattle.qm_gadget.proofs.rim_marks.push_rim_marks.Goals.loop-i-preserved
loop-i-preserved c = search (rules, rim_step, marks_step)
