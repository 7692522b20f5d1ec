use Rattle.std.proofs.Common.{Some, ap, arith, ◌<◌, ◌≡◌}
use Rattle.{std.proofs.lemmas.List.FromFn.get_or-map-range_with_len, def_cuttext.specs.LayoutText.break_line}
use Rattle.{def_feature.specs.Marks.is_break, def_mesh.specs.Vertices.vertex_count}
use Rattle.qm_report.proofs.Texts.{nothing_behind, piece_behind}
use Rattle.qm_report.proofs.layout.push_broken.Goals.{else-index, then-index+in_ok-push_line}

pub loop-v-preserved : Rattle.qm_report.proofs.layout.push_broken.Goals.loop-v-preserved
loop-v-preserved c =
    let soup = c.args.cut.now.soup in
    let marks = c.args.marks.now in
    let v = c.loop-v.v in
    let t0 = c.args.text.now.items in
    let b = c.index.result.now in
    let low : v < vertex_count soup.faces =
    omega (arith, c.loop-v-test.true, c.vertices-v-end.ensures.value, ap vertex_count c.mesh-mesh.ensures) in
    let broken : b ≡ is_break soup.faces marks v = rw (c.index.ensures, c.in_ok-broken.ensures, c.mesh-mesh.ensures)
    (get_or-map-range_with_len (is_break soup.faces marks) 0 (vertex_count soup.faces) v v b low (omega arith)) in
    elim c.if-index.branch [
      | then-index+in_ok-push_line w ↦
          let place = rw c.names-names.ensures.value at w.place_in_file.ensures in
          rw w.text-is (piece_behind (break_line soup (Some marks)) v t0 c.loop-v.invariant
          (rw (← broken, w.if-index.true, w.in_ok-push_line.ensures, w.from.ensures, place)))
      | else-index w ↦ rw w.text-is (piece_behind (break_line soup (Some marks)) v t0 c.loop-v.invariant
          (rw (← broken, w.if-index.false) (nothing_behind c.loop-v.text.items)))
    ]
