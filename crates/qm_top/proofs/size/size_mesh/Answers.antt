use Rattle.std.proofs.Common.{None, refl}
use Rattle.def_run.specs.Size.{soup_targets, AsksForNearSize, AsksForSize}
use Rattle.qm_write.specs.{Framing.framed_text, declared.text.Framed.Framed}
use Rattle.qm_top.proofs.{Remeshed.aimed_fails, Remeshed.aimed_shown, Remeshed.size_at, Remeshed.size_fail_as}
use Rattle.qm_top.proofs.{Refusals.kept_for, Refusals.put_refused, Refusals.wrote, size.size_mesh.Goals.After-new}
use Rattle.qm_top.specs.{Fitting.FailsNear, Fitting.IsFarTask, Fitting.IsOfWishes, Refusals.refusal_of_size}
use Rattle.qm_top.specs.{Writing.refusal_of_put, Writing.ShowsAsked}
use Rattle.{error_laws.proofs.Errors.handed, def_fit.specs.declared.fit.Aim.TheVariants.Edge, def_io.specs.Bytes.Bytes}
use Rattle.qm_top.proofs.size.size_mesh.Goals as goal

-- What is written is the text of the task.
abbrev framed : (g : _) → After-new g → Framed
framed g c = record {
  head = c.in_ok-head.head;
  between = c.new.result;
  remesh = c.in_ok-remesh.remesh;
  shares = None;
}

shows : (g : _) (c : After-new g) (bytes : Bytes) → ShowsAsked (AsksForNearSize c.args.edge c.args.floor) bytes
    c.args.read (framed_text (framed g c) c.in_ok-cut.cut.soup c.in_ok-cut.cut.layout)
shows g c bytes =
    let made = c.in_ok-cut.ensures in
    let kept = c.in_ok-remesh.ensures in
    aimed_shown (size_at c.args.edge c.args.floor bytes c.in_ok-cut.cut made.laid made.traced) made.soup (framed g c)
    made.laid kept.near kept.terms kept.kept c.in_ok-head.ensures c.new.ensures.items refl

pub write_framed-requires : goal.write_framed-requires
write_framed-requires g c = kept_for c.in_ok-remesh.remesh c.in_ok-remesh.ensures.terms c.in_ok-remesh.ensures.kept

pub returns-in_err-remesh-clause-refused : goal.returns-in_err-remesh-clause-refused
returns-in_err-remesh-clause-refused g c bytes =
    let made = c.in_ok-cut.ensures in
    let cut = c.in_ok-cut.cut in
    handed _ _ (refusal_of_size c.in_err-remesh.field-0.0) c.from_residual-in_err-remesh.ensures.1
    (aimed_fails (size_at c.args.edge c.args.floor bytes cut made.laid made.traced) made.soup _ _ refl
    c.in_err-remesh.field-0.0 (size_fail_as c.args.edge (soup_targets c.args.edge cut.soup) cut.layout c.args.floor
    c.in_err-remesh.field-0.0 c.in_err-remesh.ensures.refused))

pub returns-in_err-head-clause-refused : goal.returns-in_err-head-clause-refused
returns-in_err-head-clause-refused g c bytes = handed _ _ _ c.from_residual-in_err-head.ensures.1 (refl, tt)

pub returns-in_err-write_framed-clause-refused : goal.returns-in_err-write_framed-clause-refused
returns-in_err-write_framed-clause-refused g c bytes =
    let at = (goal.at.returns-in_err-write_framed-clause-refused g c).After-new in
    let asks = AsksForSize c.args.edge c.args.floor in
    let near = AsksForNearSize c.args.edge c.args.floor in
    let failed = c.in_err-write_framed in
    handed _ _ (refusal_of_put failed.field-0.0) c.from_residual-in_err-write_framed.ensures.1
    (put_refused (ShowsAsked near bytes c.args.read)
    (IsOfWishes (FailsNear asks near bytes c.args.read) (IsFarTask (Edge c.args.edge) asks bytes c.args.read)) _ _
    failed.field-0.0 (shows g at bytes) tt failed.ensures.prefix failed.ensures.fault failed.ensures.untouched)

pub returns-clause-done : goal.returns-clause-done
returns-clause-done g c bytes =
    wrote _ (shows g (goal.at.returns-clause-done g c).After-new bytes) c.in_ok-write_framed.ensures.whole
