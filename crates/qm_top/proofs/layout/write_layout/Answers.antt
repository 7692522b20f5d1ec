use Rattle.qm_top.proofs.Refusals.{wrote}
use Rattle.{std.proofs.Common.refl, std.proofs.Common.◌∙◌, error_laws.proofs.Errors.handed}
use Rattle.qm_top.proofs.layout.write_layout.Goals as goal

pub returns-in_err-text-clause-refused : goal.returns-in_err-text-clause-refused
returns-in_err-text-clause-refused g c = handed _ _ _ c.from_residual.ensures.1 (refl, tt)

pub returns-clause-done : goal.returns-clause-done
returns-clause-done g c =
    wrote c.deref.result.now (c.deref.ensures.value ∙ c.in_ok-text.ensures) c.in_ok-write_all.ensures.whole
