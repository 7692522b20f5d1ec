use Rattle.{std.proofs.Common.rules, qm_check.proofs.Maps.no_command, qm_check.proofs.Maps.no_front}
use Rattle.qm_check.proofs.map.judge_parts.Goals as goal

pub returns-in_err-old-clause-refused : goal.returns-in_err-old-clause-refused
returns-in_err-old-clause-refused c = search (rules, no_front)

pub returns-in-None-clause-refused : goal.returns-in-None-clause-refused
returns-in-None-clause-refused c = search (rules, no_command)
