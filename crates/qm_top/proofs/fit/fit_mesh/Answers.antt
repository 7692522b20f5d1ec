use Rattle.std.proofs.Common.{◌≡◌, Ok, ap, sym, ◌∙◌, refl}
use Rattle.def_fit.specs.{FitTasks.asides_in, FitTasks.Asides, Shares.shares_of}
use Rattle.qm_write.specs.{Framing.framed_text, declared.text.Framed.Framed}
use Rattle.qm_top.proofs.{Remeshed.aimed_fails, Remeshed.aimed_shown, Remeshed.fit_at, Refusals.kept_for}
use Rattle.qm_top.proofs.{Refusals.put_refused, Refusals.wrote, fit.fit_mesh.Goals.In_ok-between}
use Rattle.qm_top.specs.{Fitting.FailsNear, Fitting.IsFarTask, Fitting.IsOfWishes, Refusals.refusal_of_size}
use Rattle.qm_top.specs.{Writing.refusal_of_put, Writing.ShowsAsked}
use Rattle.{std.specs.Prelude.option_copied, error_laws.proofs.Errors.handed, def_io.specs.Bytes.Bytes}
use Rattle.{def_run.specs.Fit.AsksForNearFit, def_run.specs.Fit.AsksToFit, qm_asides.specs.Beside.asides_of}
use Rattle.qm_top.proofs.fit.fit_mesh.Goals as goal

-- What is written is the text of the task.
abbrev framed : (g : _) → In_ok-between g → Framed
framed g c = record {
  head = c.in_ok-head.head;
  between = c.in_ok-between.between;
  remesh = c.in_ok-remesh.remesh;
  shares = c.in_ok-shares.shares;
}

shows : (g : _) (c : In_ok-between g) (bytes : Bytes) → asides_in c.args.fit.now bytes c.args.read ≡ Ok
    (asides_of c.args.asides) → ShowsAsked (AsksForNearFit c.args.fit.now) bytes c.args.read
    (framed_text (framed g c) c.in_ok-cut.cut.soup c.in_ok-cut.cut.layout)
shows g c bytes said =
    let cut = c.in_ok-cut.ensures in
    let kept = c.in_ok-remesh.ensures in
    let asides : Asides = record { kept = option_copied c.as_deref-kept.result; wishes = c.deref.result.now } in
    let on = fit_at c.args.fit.now bytes c.in_ok-cut.cut asides c.as_deref-kept.ensures.value c.deref.ensures.value
    said c.requires.marks cut.soup cut.laid cut.chosen in
    aimed_shown on.1 cut.soup (framed g c) cut.laid kept.near kept.terms kept.kept c.in_ok-head.ensures
    c.in_ok-between.ensures (c.in_ok-shares.ensures cut.chosen.0 on.0 cut.chosen.2
    ∙ ap (λ ws. shares_of c.args.fit.now c.in_ok-cut.cut.soup ws cut.chosen.0)
    (c.deref-2.ensures.value ∙ sym c.deref.ensures.value))

pub lines_between-requires : goal.lines_between-requires
lines_between-requires g c = kept_for c.in_ok-remesh.remesh c.in_ok-remesh.ensures.terms c.in_ok-remesh.ensures.kept

pub write_framed-requires : goal.write_framed-requires
write_framed-requires g c = kept_for c.in_ok-remesh.remesh c.in_ok-remesh.ensures.terms c.in_ok-remesh.ensures.kept

pub returns-in_err-remesh-clause-refused : goal.returns-in_err-remesh-clause-refused
returns-in_err-remesh-clause-refused g c bytes said =
    let cut = c.in_ok-cut.ensures in
    let asides : Asides = record { kept = option_copied c.as_deref-kept.result; wishes = c.deref.result.now } in
    handed _ _ (refusal_of_size c.in_err-remesh.field-0.0) c.from_residual-in_err-remesh.ensures.1
    (aimed_fails (fit_at c.args.fit.now bytes c.in_ok-cut.cut asides c.as_deref-kept.ensures.value
    c.deref.ensures.value said c.requires.marks cut.soup cut.laid cut.chosen).1 cut.soup _ _ refl
    c.in_err-remesh.field-0.0 c.in_err-remesh.ensures.refused)

pub returns-in_err-shares-clause-refused : goal.returns-in_err-shares-clause-refused
returns-in_err-shares-clause-refused g c bytes said = handed _ _ _ c.from_residual-in_err-shares.ensures.1 (refl, tt)

pub returns-in_err-head-clause-refused : goal.returns-in_err-head-clause-refused
returns-in_err-head-clause-refused g c bytes said = handed _ _ _ c.from_residual-in_err-head.ensures.1 (refl, tt)

pub returns-in_err-between-clause-refused : goal.returns-in_err-between-clause-refused
returns-in_err-between-clause-refused g c bytes said = handed _ _ _ c.from_residual-in_err-between.ensures.1 (refl, tt)

pub returns-in_err-write_framed-clause-refused : goal.returns-in_err-write_framed-clause-refused
returns-in_err-write_framed-clause-refused g c bytes said =
    let at = (goal.at.returns-in_err-write_framed-clause-refused g c).In_ok-between in
    let fit = c.args.fit.now in
    let failed = c.in_err-write_framed in
    handed _ _ (refusal_of_put failed.field-0.0) c.from_residual-in_err-write_framed.ensures.1
    (put_refused (ShowsAsked (AsksForNearFit fit) bytes c.args.read)
    (IsOfWishes (FailsNear (AsksToFit fit) (AsksForNearFit fit) bytes c.args.read)
    (IsFarTask fit.aim (AsksToFit fit) bytes c.args.read)) _ _ failed.field-0.0 (shows g at bytes said) tt
    failed.ensures.prefix failed.ensures.fault failed.ensures.untouched)

pub returns-clause-done : goal.returns-clause-done
returns-clause-done g c bytes said =
    wrote _ (shows g (goal.at.returns-clause-done g c).In_ok-between bytes said) c.in_ok-write_framed.ensures.whole
