use Rattle.{std.proofs.Common.not, std.specs.List.count_by, feature_laws.specs.Leads.IsLeading}
use Rattle.qm_feature.proofs.straightening.lead.Given as goal

abbrev pub invariant-loop-next : goal.invariant-loop-next
invariant-loop-next l = IsLeading l.mesh l.d l.fn.led l.led l.at

abbrev pub decreases-loop-next : goal.decreases-loop-next
decreases-loop-next l = count_by not l.led
