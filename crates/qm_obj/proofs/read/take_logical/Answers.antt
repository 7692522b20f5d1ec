use Rattle.std.proofs.Common.{rules}
use Rattle.qm_obj.proofs.JoinLemmas.{single_logical}
use Rattle.qm_obj.proofs.read.take_logical.Goals as goal

pub returns-clause-kept : goal.returns-clause-kept
returns-clause-kept c = search (rules, single_logical)

pub returns-in_err-take-clause-refused : goal.returns-in_err-take-clause-refused
returns-in_err-take-clause-refused c = search (rules, single_logical)
