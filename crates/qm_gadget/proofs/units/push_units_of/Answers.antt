use Rattle.{std.proofs.Common.rules, qm_gadget.proofs.Fans.from_more, qm_gadget.proofs.Fans.two_parts}

pub loop-j-preserved : Rattle.qm_gadget.proofs.units.push_units_of.Goals.loop-j-preserved
loop-j-preserved c = search (rules, from_more, two_parts)
