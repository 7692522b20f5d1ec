use Rattle.std.proofs.Common.{sym, ◌∙◌}
use Rattle.qm_match.proofs.search.Search.step_along.Goals as goal

pub grow-requires : goal.grow-requires
grow-requires c = assumption (sym c.kind.ensures ∙ c.in-Grow.is)

pub shrink-requires : goal.shrink-requires
shrink-requires c = assumption (sym c.kind.ensures ∙ c.in-Shrink.is)

pub augment-requires : goal.augment-requires
augment-requires c = assumption (sym c.kind.ensures ∙ c.in-Augment.is)
