use Rattle.std.proofs.Common.{◌≡◌, ◌<◌, length, sym, ap, ◌∙◌, arith}
use Rattle.std.proofs.lemmas.List.{get_or_read, length-map, with_items_is}
use Rattle.qm_sing.proofs.{Longest.one_more, Longest.passed_by, lines.runs.Goals.then-index+in_ok-push+in_ok-push-2}
use Rattle.qm_sing.proofs.{lines.runs.Goals.else-index}
use Rattle.{def_mesh.specs.Darts.darts}

pub loop-d-preserved : Rattle.qm_sing.proofs.lines.runs.Goals.loop-d-preserved
loop-d-preserved c =
    let low : c.loop-d.d < darts c.args.mesh.now = omega (arith, c.loop-d-test.true, ap length c.faces.ensures.value) in
    let read = get_or_read _ c.loop-d.d _ (omega (arith, c.loop-d.invariant.run_long)) c.index.ensures 0 in
    elim c.if-index.branch [
      | then-index+in_ok-push+in_ok-push-2 w ↦
          let many = length-map c.loop-d.invariant.lists length in
          let count : w.len-r.result ≡ length c.loop-d.invariant.lists =
          cc (w.len-r.ensures, c.loop-d.table.len.ok.0, c.loop-d.invariant.lengths, many) in
          let run = with_items_is c.loop-d.table.run _ (w.number-line.auto.run ∙ w.deref_mut.ensures.len) in
          let at = with_items_is c.loop-d.table.at _ (w.number-line.auto.at ∙ w.deref_mut-then-index.ensures.len) in
          let line = rw (count, w.deref_mut.ensures.value, w.deref_mut-then-index.ensures.value) at
          w.number-line.ensures in
          rw (w.table-is, run, at, w.in_ok-push.ensures.items, w.in_ok-push-2.ensures.items)
          (one_more c.faces.ensures.mesh.manifold c.loop-d.invariant low (omega (arith, c.faces.ensures.mesh.few))
          (sym read ∙ w.if-index.true) w.first_of-first.ensures line (w.number-line.auto.run ∙ ap length
          w.deref_mut.ensures.value) (w.number-line.auto.at ∙ ap length w.deref_mut-then-index.ensures.value))
      | else-index w ↦ rw w.table-is (passed_by (λ e. w.if-index.false (read ∙ e)) c.loop-d.invariant)
    ]
