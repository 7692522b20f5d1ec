use Rattle.std.proofs.Common.{◌≡◌, None, Ok, refl}
use Rattle.def_run.specs.Crease.{AsksToCrease}
use Rattle.qm_write.specs.{Framing.framed_text, declared.text.Framed.Framed}
use Rattle.qm_top.proofs.{Remeshed.creased_fails, Remeshed.creased_shown, Refusals.kept_for, Refusals.put_refused}
use Rattle.qm_top.proofs.{Refusals.wrote, crease.crease_mesh.Goals.In_ok-between}
use Rattle.qm_top.specs.Writing.{refusal_of_put, FailsAsked, IsOfLayout, ShowsAsked}
use Rattle.{error_laws.proofs.Errors.handed, def_io.specs.Bytes.Bytes, def_marks.specs.Lines.marks_in}
use Rattle.qm_top.proofs.crease.crease_mesh.Goals as goal

-- What is written is the text of the task.
abbrev framed : (g : _) → In_ok-between g → Framed
framed g c = record {
  head = c.in_ok-head.head;
  between = c.in_ok-between.between;
  remesh = c.in_ok-remesh.remesh;
  shares = None;
}

shows : (g : _) (c : In_ok-between g) (bytes : Bytes) → marks_in bytes c.args.read ≡ Ok c.args.marks.items
    → ShowsAsked (AsksToCrease c.args.settings) bytes c.args.read
    (framed_text (framed g c) c.in_ok-cut.cut.soup c.in_ok-cut.cut.layout)
shows g c bytes said =
    let kept = c.in_ok-remesh.ensures in
    creased_shown bytes c.in_ok-cut.cut c.as_slice.ensures.value said c.in_ok-cut.ensures.soup
    c.in_ok-cut.ensures.chosen c.args.settings (framed g c) kept.laid kept.terms kept.kept c.in_ok-head.ensures
    c.in_ok-between.ensures refl

pub chosen_cut-requires : goal.chosen_cut-requires
chosen_cut-requires g c = rw c.as_slice.ensures.value c.requires.marks

pub lines_between-requires : goal.lines_between-requires
lines_between-requires g c = kept_for c.in_ok-remesh.remesh c.in_ok-remesh.ensures.terms c.in_ok-remesh.ensures.kept

pub write_framed-requires : goal.write_framed-requires
write_framed-requires g c = kept_for c.in_ok-remesh.remesh c.in_ok-remesh.ensures.terms c.in_ok-remesh.ensures.kept

pub returns-in_err-remesh-clause-refused : goal.returns-in_err-remesh-clause-refused
returns-in_err-remesh-clause-refused g c bytes said = handed _ _ _ c.from_residual-in_err-remesh.ensures.1 (
  refl,
  creased_fails bytes c.in_ok-cut.cut c.as_slice.ensures.value said c.in_ok-cut.ensures.soup
      c.in_ok-cut.ensures.chosen c.args.settings _ c.in_err-remesh.ensures.refused,
)

pub returns-in_err-head-clause-refused : goal.returns-in_err-head-clause-refused
returns-in_err-head-clause-refused g c bytes said = handed _ _ _ c.from_residual-in_err-head.ensures.1 (refl, tt)

pub returns-in_err-between-clause-refused : goal.returns-in_err-between-clause-refused
returns-in_err-between-clause-refused g c bytes said = handed _ _ _ c.from_residual-in_err-between.ensures.1 (refl, tt)

pub returns-in_err-write_framed-clause-refused : goal.returns-in_err-write_framed-clause-refused
returns-in_err-write_framed-clause-refused g c bytes said =
    let at = (goal.at.returns-in_err-write_framed-clause-refused g c).In_ok-between in
    let failed = c.in_err-write_framed in
    let asks = AsksToCrease c.args.settings in
    handed _ _ (refusal_of_put failed.field-0.0) c.from_residual-in_err-write_framed.ensures.1
    (put_refused (ShowsAsked asks bytes c.args.read) (IsOfLayout (FailsAsked asks bytes c.args.read)) _ _
    failed.field-0.0 (shows g at bytes said) tt failed.ensures.prefix failed.ensures.fault failed.ensures.untouched)

pub returns-clause-done : goal.returns-clause-done
returns-clause-done g c bytes said =
    wrote _ (shows g (goal.at.returns-clause-done g c).In_ok-between bytes said) c.in_ok-write_framed.ensures.whole
