use Rattle.std.proofs.{Common.sym, Common.◌∙◌, Common.◌++◌, Common.◌∷◌, Common.[], lemmas.List.append-nil}
use Rattle.qm_marks.proofs.ends.busy_keys.Goals.{then-is_busy+in_ok-push, else-is_busy}
use Rattle.qm_marks.specs.{Keys.key_of, declared.ends.TheConstants.FEW}
use Rattle.qm_marks.proofs.EdgeMarks.{keys_more}

pub loop-d-preserved : Rattle.qm_marks.proofs.ends.busy_keys.Goals.loop-d-preserved
loop-d-preserved c = let more = keys_more c.args.mesh.now FEW c.loop-d.d in
    elim c.if-is_busy.branch [
      | then-is_busy+in_ok-push w ↦
          let key = w.key_for.ensures ∙ (λ i. key_of (w.from.ensures.value i) (w.to.ensures.value i) c.loop-d.d) in
          rw (w.keys-is, w.in_ok-push.ensures.items, more, sym c.is_busy.ensures ∙ w.if-is_busy.true)
          (λ i. c.loop-d.invariant i ++ key i ∷ [])
      | else-is_busy w ↦ rw (w.keys-is, more, sym c.is_busy.ensures ∙ w.if-is_busy.false)
          (c.loop-d.invariant ∙ sym (append-nil _))
    ]
