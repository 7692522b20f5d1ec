use Rattle.std.proofs.{Common.rules, lemmas.Fmt.decimal_injective}
use Rattle.qm_certtext.proofs.Counts.{negative_form}
use Rattle.qm_certtext.proofs.numbers.read_negative.Goals as goal

pub returns-in_default : goal.returns-in_default
returns-in_default c z low same = search (rules, negative_form, decimal_injective)

pub returns-in_default-2 : goal.returns-in_default-2
returns-in_default-2 c z low same = search (rules, negative_form)
