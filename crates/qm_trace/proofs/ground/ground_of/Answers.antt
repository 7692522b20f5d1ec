use Rattle.std.proofs.Common.{rules, ◌≡◌, arith}
use Rattle.{def_mesh.specs.Vertices.vertex_count, qm_trace.proofs.Ends.map_more, qm_trace.proofs.Ends.ground_is}
use Rattle.qm_trace.proofs.ground.ground_of.Goals as goal

pub loop-v-preserved : goal.loop-v-preserved
loop-v-preserved c = search (rules, map_more)

pub returns : goal.returns
returns c =
    let e : c.loop-v.v ≡ vertex_count c.args.mesh.now = omega arith in
    rw (c.loop-v.invariant.boundary, c.loop-v.invariant.singular, e) (ground_is c.args.mesh.now)
