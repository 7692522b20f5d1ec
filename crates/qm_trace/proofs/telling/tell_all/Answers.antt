use Rattle.std.proofs.lemmas.Grind.{common_steps}
use Rattle.std.proofs.Common.{rules, ◌≡◌, ◌<◌, length, sym, ap, ◌∙◌, arith}
use Rattle.qm_trace.proofs.Tellings.{none_here, noted_here, one_here, told_all_along, Turn, may_tell}
use Rattle.qm_trace.proofs.telling.tell_all.Goals.{After-index, then-index, else-index}
use Rattle.{std.proofs.lemmas.List.get_or_default, std.proofs.lemmas.List.take_all, def_cut.specs.FullCut.is_on}
use Rattle.{def_cut.specs.Events.rider_at, mesh_laws.proofs.Chains.is_fan, def_mesh.specs.Vertices.fan_of}
use Rattle.qm_trace.proofs.telling.tell_all.Goals as goal

pub prev-d-requires : goal.prev-d-requires
prev-d-requires c = (is_fan _ _ _ c.fan-e-items.ensures).dart c.loop-e.e-index c.loop-e-test.true

turn : (c : After-index) → Turn c.args.mesh.now c.args.site c.args.v c.args.notes.now c.args.riders.now
    c.loop-e.riders.list.items c.loop-e.e-index c.prev-d.result
turn c = search rules

mark : (c : After-index) → c.index.result.now ≡ is_on c.args.notes.now.taken.items c.prev-d.result
mark c = grind (arith, common_steps)

pub tell_one-requires-clause-may : goal.tell_one-requires-clause-may
tell_one-requires-clause-may c =
    let at = (goal.at.tell_one-requires-clause-may c).After-index in
    let on = sym (mark at) ∙ c.if-index.true in
    let place = c.index-then-index.ensures ∙ get_or_default c.args.notes.now.places.items c.prev-d.result _ 0
    (omega (arith, c.prev-d.ensures.dart, c.requires.can.taken_long, c.requires.notes.places_long)) in
    may_tell (turn at) on place (omega (arith, (noted_here (turn at) on place).1)) c.prev-d.ensures.dart

pub loop-e-preserved : goal.loop-e-preserved
loop-e-preserved c =
    let at = (goal.at.loop-e-preserved c).After-index in
    elim c.if-index.branch [
      | then-index w ↦
          let on = sym (mark at) ∙ w.if-index.true in
          let place = w.index-then-index.ensures ∙ get_or_default c.args.notes.now.places.items c.prev-d.result _ 0
          (omega (arith, c.prev-d.ensures.dart, c.requires.can.taken_long, c.requires.notes.places_long)) in
          let low : w.index-then-index.result.now < length c.loop-e.riders.list.items =
          omega (arith, (noted_here (turn at) on place).1, c.loop-e.invariant.counted.long) in
          rw w.riders-is (record {
            told = λ r. rw w.tell_one.ensures.list (one_here (turn at) on place low r);
            counted = w.tell_one.ensures.counted;
            many = search rules;
          })
      | else-index w ↦ rw w.riders-is (record {
        told = none_here (turn at) (sym (mark at) ∙ w.if-index.false);
        counted = c.loop-e.invariant.counted;
        many = c.loop-e.invariant.many;
      })
    ]

pub returns-clause-told : goal.returns-clause-told
returns-clause-told c r =
    let all = take_all c.loop-e.e-index (fan_of c.args.mesh.now c.args.v)
    (omega (arith, c.loop-e-test.false, ap length c.fan-e-items.ensures)) in
    rw all at (c.loop-e.invariant.told r) ∙ told_all_along c.requires.can r (rider_at c.args.riders.now.list.items r)
