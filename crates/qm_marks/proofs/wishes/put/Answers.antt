use Rattle.{std.proofs.Common.rules, qm_marks.proofs.EdgeMarks.put_one, qm_marks.proofs.EdgeMarks.put_two}
use Rattle.qm_marks.proofs.wishes.put.Goals as goal

pub returns-in-Some-clause-wishes : goal.returns-in-Some-clause-wishes
returns-in-Some-clause-wishes c = search (rules, put_two)

pub returns-in_default-clause-wishes : goal.returns-in_default-clause-wishes
returns-in_default-clause-wishes c = search (rules, put_one)
