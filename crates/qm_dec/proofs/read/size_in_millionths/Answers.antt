use Rattle.std.proofs.Common.{rules, length-append}
use Rattle.qm_dec.proofs.Digits.{number_parts, power_up, power_down}
use Rattle.qm_dec.proofs.read.size_in_millionths.Goals as goal

pub size_of-requires : goal.size_of-requires
size_of-requires c = search (rules, number_parts)

pub size_of-requires-then-is_negative : goal.size_of-requires-then-is_negative
size_of-requires-then-is_negative c = search (rules, number_parts)

pub size_of-requires-else-is_negative : goal.size_of-requires-else-is_negative
size_of-requires-else-is_negative c = search (rules, number_parts)

pub returns-then-is_negative : goal.returns-then-is_negative
returns-then-is_negative c = search (rules, power_down, length-append)

pub returns-else-is_negative : goal.returns-else-is_negative
returns-else-is_negative c = search (rules, power_up)
