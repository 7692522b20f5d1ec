use Rattle.std.proofs.Common.{rules, length-append}
use Rattle.qm_gadget.proofs.{Numbers.places_append, Numbers.rim_is, OfList.rim_states_few}
use Rattle.qm_gadget.proofs.matching.marks_told.Goals as goal

pub push_rim_marks-requires : goal.push_rim_marks-requires
push_rim_marks-requires c = search (rules, rim_states_few, length-append)

pub returns : goal.returns
returns c = search (rules, places_append, rim_is)
