use Rattle.std.proofs.Common.{rules, get_or, ◌-◌, ◌∙◌, ◌≡◌}
use Rattle.qm_obj.proofs.TailLemmas.{at_back, back_more, mapped_more, passes_at}
use Rattle.{std.proofs.lemmas.List.length-set, qm_obj.proofs.used.renumber.Goals.After-index}
use Rattle.qm_obj.proofs.used.renumber.Goals as goal

-- The face is still the one that it was.
same : (c : After-index) → c.index.result.now ≡ get_or c.args.faces.now.items c.loop-f.f c.index.result.now
same c = search (rules, at_back)

pub new_corners-requires : goal.new_corners-requires
new_corners-requires c = rw (same (goal.at.new_corners-requires c).After-index) (search (rules, passes_at))

pub loop-f-preserved : goal.loop-f-preserved
loop-f-preserved c = record {
  size = length-set _ _ _ ∙ c.loop-f.invariant.size;
  prefix = search (rules, mapped_more, same (goal.at.loop-f-preserved c).After-index);
  back = search (rules, back_more);
}
