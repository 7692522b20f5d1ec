use Rattle.std.proofs.Common.{ap, arith, length, sym, ◌∙◌}
use Rattle.{def_mesh.specs.Darts.to_of, mesh_laws.proofs.Chains.fan_of_is, mesh_laws.proofs.Chains.is_fan}
use Rattle.qm_marks.proofs.ends.dart_in_fan.Goals as goal

pub to-requires : goal.to-requires
to-requires c = omega (
  arith,
  (is_fan c.args.mesh.now c.args.u c.fan-d-items.result.now c.fan-d-items.ensures).dart
      c.loop-d.d-index c.loop-d-test.true,
)

pub returns-then-to-v-clause-some : goal.returns-then-to-v-clause-some
returns-then-to-v-clause-some c =
    let fan = is_fan c.args.mesh.now c.args.u c.fan-d-items.result.now c.fan-d-items.ensures in
    record {
      low = fan.dart c.loop-d.d-index c.loop-d-test.true;
      from = fan.leaves c.loop-d.d-index c.loop-d-test.true;
      to = sym c.to.ensures.value ∙ c.if-to-v.true;
    }

pub returns-clause-none : goal.returns-clause-none
returns-clause-none c none d low from to =
    let place = (fan_of_is c.args.mesh.now c.args.u).place d low from in
    c.loop-d.invariant place.0 (omega (arith, ap length c.fan-d-items.ensures))
    (ap (to_of c.args.mesh.now) place.2 ∙ to)
