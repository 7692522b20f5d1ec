use Rattle.{std.proofs.Common.rules, qm_gadget.proofs.Numbers.choice_places}

pub returns-else-some : Rattle.qm_gadget.proofs.marks.push_choice.Goals.returns-else-some
returns-else-some c = search (rules, choice_places)
