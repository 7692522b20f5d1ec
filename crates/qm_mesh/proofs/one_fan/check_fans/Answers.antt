use Rattle.std.proofs.Common.{◌≡◌, length, ◌<◌, ap, ◌∙◌, arith}
use Rattle.qm_mesh.proofs.OneFan.{not_seen, checked_more, two_fans_first, one_fan_all}
use Rattle.qm_mesh.proofs.{Vertices.fan_found, one_fan.check_fans.Goals.After-as_slice}
use Rattle.{def_mesh.specs.Vertices.fan_of, mesh_laws.proofs.Chains.IsFan, mesh_laws.proofs.Chains.is_fan}
use Rattle.qm_mesh.proofs.one_fan.check_fans.Goals as goal

-- The darts are those of the vertex, and there is one.
fan : (c : After-as_slice)
    → IsFan c.args.faces.now c.loop-v.v c.as_slice.result.now × (0 < length c.as_slice.result.now)
fan c =
    let are : c.as_slice.result.now ≡ fan_of c.args.faces.now c.loop-v.v =
    c.as_slice.ensures ∙ fan_found _ _ _ _ _ c.requires.each_fan c.loop-v-test.true c.index-fans-v.is in
    (is_fan _ _ _ are, omega (arith, ap length are, c.requires.used c.loop-v.v c.loop-v-test.true))

pub is_one_fan-requires-clause-used : goal.is_one_fan-requires-clause-used
is_one_fan-requires-clause-used c = (fan (goal.at.is_one_fan-requires-clause-used c).After-as_slice).1

pub is_one_fan-requires-clause-darts : goal.is_one_fan-requires-clause-darts
is_one_fan-requires-clause-darts c t l =
    let h = (fan (goal.at.is_one_fan-requires-clause-darts c).After-as_slice).0 in
    omega (arith, h.dart t l, c.requires.partners.long, ap length c.loop-v.invariant.0)

pub is_one_fan-requires-clause-unseen : goal.is_one_fan-requires-clause-unseen
is_one_fan-requires-clause-unseen c =
    let (h, some) = fan (goal.at.is_one_fan-requires-clause-unseen c).After-as_slice in
    not_seen _ _ _ c.loop-v.invariant.1 _ (h.dart 0 some) (h.leaves 0 some)

pub returns-then-not-is_one_fan-clause-err : goal.returns-then-not-is_one_fan-clause-err
returns-then-not-is_one_fan-clause-err c =
    let (h, some) = fan (goal.at.returns-then-not-is_one_fan-clause-err c).After-as_slice in (
      c.requires.repeat_free,
      c.requires.once,
      two_fans_first c.requires h some c.loop-v.invariant.1
          (omega (arith, ap length (c.is_one_fan.ensures.same ∙ c.loop-v.invariant.0))) c.loop-v.invariant.0
          c.is_one_fan.ensures.visit c.if-not-is_one_fan.ensures.all,
    )

pub loop-v-preserved : goal.loop-v-preserved
loop-v-preserved c =
    let (h, some) = fan (goal.at.loop-v-preserved c).After-as_slice in (
      c.is_one_fan.ensures.same ∙ c.loop-v.invariant.0,
      checked_more c.requires h some c.loop-v.invariant.1
          (omega (arith, ap length (c.is_one_fan.ensures.same ∙ c.loop-v.invariant.0))) c.loop-v.invariant.0
          c.is_one_fan.ensures.visit c.if-not-is_one_fan.ensures.all,
    )

pub returns-clause-ok : goal.returns-clause-ok
returns-clause-ok c = one_fan_all c.args.faces.now _ _ _ c.requires.within c.loop-v-test.false c.loop-v.invariant.1
