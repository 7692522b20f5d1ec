use Rattle.std.proofs.Common.{rules, add-one, ◌≡◌, ◌+◌, ◌-◌, arith}
use Rattle.qm_forest.proofs.{Expandings.hung_more, Expandings.outermost_kept, OnWays.same_nest}
use Rattle.qm_forest.proofs.forest.Forest.hang_parts.Goals as goal

pub leader-v-requires : goal.leader-v-requires
leader-v-requires c = outermost_kept c.loop-k.invariant.same
    c.loop-k.invariant.here (c.requires c.loop-k.k (omega (arith, c.loop-k-test.true)))

pub loop-k-preserved : goal.loop-k-preserved
loop-k-preserved c =
    let back : c.loop-k.k ≡ c.loop-k.k + 1 - 1 = omega arith in
    record {
      here = search rules;
      back = rw (← back) c.loop-k.invariant.here;
      seen = search (rules, hung_more, add-one);
      same = same_nest c.loop-k.invariant.same (same_nest c.set_label.ensures.same c.set_link.ensures.same);
    }
