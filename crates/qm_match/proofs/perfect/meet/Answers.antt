use Rattle.std.proofs.{Common.rules, Common.arith, lemmas.List.take_all}
use Rattle.qm_match.proofs.Outcomes.{counts_on, increasing_on, increasing_to}
use Rattle.qm_match.proofs.perfect.meet.Goals as goal

pub loop-e-preserved : goal.loop-e-preserved
loop-e-preserved c = record {
  size = c.mark.ensures.size;
  low = omega (arith, c.if-e-edge_count.false, c.edge_count.ensures.value);
  increasing = search (rules, increasing_on);
  counts = search (rules, counts_on);
}

pub returns-clause-increasing : goal.returns-clause-increasing
returns-clause-increasing c = search (rules, take_all, increasing_to)
