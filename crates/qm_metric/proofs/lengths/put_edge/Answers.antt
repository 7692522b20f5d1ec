use Rattle.std.proofs.{Common.rules, lemmas.List.Elements.All-set}
use Rattle.qm_metric.proofs.lengths.put_edge.Goals as goal

pub returns-in-Some-clause-small : goal.returns-in-Some-clause-small
returns-in-Some-clause-small c = search (rules, All-set)

pub returns-in_default-clause-small : goal.returns-in_default-clause-small
returns-in_default-clause-small c = search (rules, All-set)
