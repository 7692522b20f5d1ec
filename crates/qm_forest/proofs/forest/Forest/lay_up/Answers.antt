use Rattle.std.proofs.Common.{rules, add-one, ◌∙◌, ap, arith}
use Rattle.def_forest.specs.{Darts.darts_of, Darts.far, Tables.forest_of, Ways.dart_or}
use Rattle.qm_forest.proofs.Increases.{IsLaidPlace, laid_place, laid_more, alike_more}
use Rattle.qm_forest.proofs.forest.Forest.lay_up.Goals.{After-rise_from-d}
use Rattle.qm_forest.proofs.forest.Forest.lay_up.Goals as goal

place : (c : After-rise_from-d) → IsLaidPlace c.args.g.now.graph c.args.self.now c.loop.self c.args.c c.loop.counter
    c.loop.x
place c = search (rules, laid_place)

pub rise_from-d-requires : goal.rise_from-d-requires
rise_from-d-requires c = (laid_place c.args.g.now.small _ _ _ c.requires.from
    _ (omega (arith, c.loop-test.true)) c.loop.invariant.here _ c.loop.invariant.same).some

pub far_blossom-y-requires : goal.far_blossom-y-requires
far_blossom-y-requires c = rw c.rise_from-d.ensures (place (goal.at.far_blossom-y-requires c).After-rise_from-d).dart

pub lay-requires : goal.lay-requires
lay-requires c = (place (goal.at.lay-requires c).After-rise_from-d).low

pub loop-preserved : goal.loop-preserved
loop-preserved c =
    let it = place (goal.at.loop-preserved c).After-rise_from-d in
    let next = c.far_blossom-y.ensures.value
    ∙ (ap (λ d. (forest_of c.loop.self).out (far (darts_of c.args.g.now.graph) d)) c.rise_from-d.ensures ∙ it.next) in
    record {
      here = rw (add-one _) next;
      seen = rw (add-one _) (laid_more _ _ _ _ c.loop.counter c.loop.invariant.seen c.lay.ensures.seen
          c.loop.invariant.here next (c.rise_from-d.ensures ∙ ap dart_or it.same));
      same = alike_more c.args.self.now c.loop.self c.lay.new.self c.loop.invariant.same c.lay.ensures.same;
    }
