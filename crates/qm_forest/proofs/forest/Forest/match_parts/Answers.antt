use Rattle.std.proofs.Common.{rules, add-one, ◌≡◌, ◌+◌, ◌-◌, arith}
use Rattle.qm_forest.proofs.{Expandings.paired_more, OnWays.same_nest}
use Rattle.qm_forest.proofs.forest.Forest.match_parts.Goals as goal

pub loop-k-preserved : goal.loop-k-preserved
loop-k-preserved c =
    let back : c.loop-k.k ≡ c.loop-k.k + 1 - 1 = omega arith in
    record {
      here = search rules;
      back = rw (← back) c.loop-k.invariant.here;
      seen = search (rules, paired_more, add-one);
      same = same_nest c.loop-k.invariant.same c.set_mate.ensures.same;
    }
