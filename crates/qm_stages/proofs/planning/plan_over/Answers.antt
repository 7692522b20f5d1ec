use Rattle.qm_stages.proofs.Positions.{arcs_long}
use Rattle.qm_stages.proofs.planning.plan_over.Goals as goal

pub plan-requires : goal.plan-requires
plan-requires c = record {
  layout = rw c.layout.ensures.layout c.layout.ensures.laid.0;
  long = arcs_long c.layout.result.now c.layout.ensures.layout c.requires.long;
  lengths = rw (← c.layout.ensures.layout) at c.requires.lengths;
  bounded = c.requires.bounded;
}

pub returns : goal.returns
returns c = rw (← c.layout.ensures.layout) c.plan.ensures
