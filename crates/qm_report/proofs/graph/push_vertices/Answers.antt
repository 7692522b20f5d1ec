use Rattle.std.proofs.Common.{◌<◌, arith}
use Rattle.def_mesh.specs.{Kinds.kind_of, Vertices.vertex_count, declared.Kind.TheVariants.Regular}
use Rattle.qm_report.proofs.{Layouts.place_low, Texts.piece_behind}
use Rattle.{def_report.specs.GraphText.vertex_line, qm_sing.proofs.Numberings.kind_read}
use Rattle.qm_report.proofs.graph.push_vertices.Goals as goal

pub bounds-kinds-v : goal.bounds-kinds-v
bounds-kinds-v c = place_low (kind_of c.args.mesh.now) c.args.mesh.now c.requires
    (omega (arith, c.loop-v-test.true, c.vertices-v-end.ensures.value))

pub loop-v-preserved : goal.loop-v-preserved
loop-v-preserved c =
    let mesh = c.args.mesh.now in
    let v = c.loop-v.v in
    let low : v < vertex_count mesh = omega (arith, c.loop-v-test.true, c.vertices-v-end.ensures.value) in
    let kind = kind_read mesh c.args.kinds.now v Regular low c.requires in
    piece_behind (vertex_line mesh) v c.args.text.now.items c.loop-v.invariant
    (cc (c.in_ok-push_vertex.ensures, kind, c.faces_at.ensures))
