use Rattle.std.proofs.Common.{◌≡◌, ◌<◌, ◌++◌, ap, ◌∙◌, arith}
use Rattle.def_cuttext.specs.LayoutText.{named_line, place_in_file}
use Rattle.def_mesh.specs.{Vertices.faces_at, Vertices.vertex_count, declared.Kind.TheVariants.Regular}
use Rattle.def_report.specs.GraphText.{kind_line}
use Rattle.{qm_sing.proofs.Numberings.kind_read, qm_report.proofs.Texts.piece_behind}

pub loop-v-preserved : Rattle.qm_report.proofs.layout.push_named.Goals.loop-v-preserved
loop-v-preserved c =
    let soup = c.args.cut.now.soup in
    let faces = soup.faces in
    let v = c.loop-v.v in
    let low : v < vertex_count faces =
    omega (arith, c.loop-v-test.true, c.vertices-v-end.ensures.value, ap vertex_count c.mesh-mesh.ensures) in
    let kind = kind_read faces c.args.kinds.now v Regular low c.requires in
    let place : c.place_in_file-place.result ≡ place_in_file soup.names v =
    cc (c.place_in_file-place.ensures, c.names.ensures.value) in
    let many : c.faces_at.result ≡ faces_at faces v = cc (c.faces_at.ensures, c.mesh-mesh.ensures) in
    piece_behind (named_line soup) v c.args.text.now.items c.loop-v.invariant
    (c.in_ok-push_vertex.ensures ∙ (λ i. c.loop-v.text.items ++ kind_line (kind i) (place i) (many i)))
