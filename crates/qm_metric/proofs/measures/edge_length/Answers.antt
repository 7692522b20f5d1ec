use Rattle.std.proofs.Common.{◌∙◌, ap}
use Rattle.{def_metric.specs.Roots.root_of, qm_metric.proofs.StartLaws.root_small}
use Rattle.qm_metric.proofs.measures.edge_length.Goals as goal

pub returns-clause-value : goal.returns-clause-value
returns-clause-value c = c.root.ensures.value ∙ ap root_of c.squared_length.ensures.value

pub returns-clause-small : goal.returns-clause-small
returns-clause-small c = root_small _ _ c.root.ensures.greatest c.squared_length.ensures.small
