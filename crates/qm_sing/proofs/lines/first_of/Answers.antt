use Rattle.std.proofs.Common.{length, sym, ap, ◌∙◌, arith}
use Rattle.qm_sing.proofs.Walking.{leads, not_endless, walk_on}
use Rattle.qm_sing.proofs.lines.first_of.Goals as goal

pub back-preserved : goal.back-preserved
back-preserved c = walk_on (leads c.faces.ensures.mesh.manifold) c.args.d c.requires c.back.invariant
    (sym c.leader.ensures.value ∙ c.in-Some.is) c.if-before-d.false

pub unreachable-requires : goal.unreachable-requires
unreachable-requires c = not_endless (leads c.faces.ensures.mesh.manifold) c.args.d c.requires c.back.invariant
    (omega (arith, c.back-test.false, c.back.auto.counter-end, ap length c.faces.ensures.value))
