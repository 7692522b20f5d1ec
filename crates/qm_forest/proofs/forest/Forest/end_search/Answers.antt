use Rattle.std.proofs.Common.{rules, ◌∙◌, ap, refl, get_or}
use Rattle.def_forest.specs.{Tables.forest_of}
use Rattle.qm_forest.proofs.OnWays.{one_more_outside, same_nest}

pub loop-k-preserved : Rattle.qm_forest.proofs.forest.Forest.end_search.Goals.loop-k-preserved
loop-k-preserved c = record {
  seen = search rules;
  done = one_more_outside (forest_of c.loop-k.self) c.args.self.now.trail c.loop-k.k (c.trail_at-v.ensures.value
      ∙ ap (λ xs. get_or xs c.loop-k.k 0) c.loop-k.invariant.trail) c.set_label.ensures.seen c.loop-k.invariant.done;
  same = same_nest c.loop-k.invariant.same c.set_label.ensures.same;
  trail = c.set_label.ensures.trail refl ∙ c.loop-k.invariant.trail;
}
