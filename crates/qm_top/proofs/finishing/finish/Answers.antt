use Rattle.qm_top.proofs.Refusals.{framed_shown, kept_for, put_refused, wrote}
use Rattle.qm_top.specs.Writing.{refusal_of_put, FailsTask, IsOfLayout}
use Rattle.{std.proofs.Common.None, std.proofs.Common.refl, qm_write.specs.Framing.framed_text}
use Rattle.{qm_write.specs.declared.text.Framed.Framed, qm_top.proofs.finishing.finish.Goals.After-new}
use Rattle.{qm_top.specs.Finishing.headed_task, error_laws.proofs.Errors.handed, remesh_laws.specs.Keeps.ShowsTask}
use Rattle.qm_top.proofs.finishing.finish.Goals as goal

abbrev framed : (g : _) → After-new g → Framed
framed g c = record { head = c.args.headed.head; between = c.new.result; remesh = c.in_ok-remesh.remesh; shares = None }

pub write_framed-requires : goal.write_framed-requires
write_framed-requires g c = kept_for c.in_ok-remesh.remesh c.in_ok-remesh.ensures.terms c.in_ok-remesh.ensures.kept

pub returns-in_err-remesh-clause-refused : goal.returns-in_err-remesh-clause-refused
returns-in_err-remesh-clause-refused g c = λ marks head on is.
    handed _ _ _ c.from_residual.ensures.1 (refl, (c.args.cut.layout, on, c.in_err-remesh.ensures.refused))

pub returns-in_err-write_framed-clause-refused : goal.returns-in_err-write_framed-clause-refused
returns-in_err-write_framed-clause-refused g c = λ marks head on is.
    let made = framed g (goal.at.returns-in_err-write_framed-clause-refused g c).After-new in
    let task = headed_task c.args.headed.terms marks head in
    let failed = c.in_err-write_framed in
    let kept = c.in_ok-remesh.ensures in
    handed _ _ (refusal_of_put failed.field-0.0) c.from_residual-in_err-write_framed.ensures.1
    (put_refused (ShowsTask task c.args.cut.soup) (IsOfLayout (FailsTask task c.args.cut.soup)) _
    (framed_text made c.args.cut.soup c.args.cut.layout) failed.field-0.0 (framed_shown task made c.args.cut.soup
    c.args.cut.layout kept.laid on kept.terms kept.kept is c.new.ensures.items refl) tt failed.ensures.prefix
    failed.ensures.fault failed.ensures.untouched)

pub returns-clause-done : goal.returns-clause-done
returns-clause-done g c = λ marks head on is.
    let made = framed g (goal.at.returns-clause-done g c).After-new in
    let kept = c.in_ok-remesh.ensures in
    wrote (framed_text made c.args.cut.soup c.args.cut.layout) (framed_shown
    (headed_task c.args.headed.terms marks head) made c.args.cut.soup c.args.cut.layout kept.laid on
    kept.terms kept.kept is c.new.ensures.items refl) c.in_ok-write_framed.ensures.whole
