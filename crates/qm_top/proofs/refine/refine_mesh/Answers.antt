use Rattle.qm_top.proofs.{Refined.is_refined, Refusals.broke, Refusals.wrote}
use Rattle.{std.proofs.Common.refl, error_laws.proofs.Errors.handed}
use Rattle.qm_top.proofs.refine.refine_mesh.Goals as goal

pub returns-in_err-new-clause-refused : goal.returns-in_err-new-clause-refused
returns-in_err-new-clause-refused g c = handed _ _ _ c.from_residual.ensures.1 (refl, c.in_err-new.ensures.refused)

pub write_refined-requires : goal.write_refined-requires
write_refined-requires g c = record { lengths = c.in_ok-new.ensures.new.lengths; even = c.in_ok-new.ensures.new.even }

pub returns-in_err-write_refined-clause-refused : goal.returns-in_err-write_refined-clause-refused
returns-in_err-write_refined-clause-refused g c = handed _ _ _ c.from_residual-in_err-write_refined.ensures.1
    (broke _ (is_refined c.requires.some c.requires.few c.in_ok-new.ensures.new) c.in_err-write_refined.ensures.prefix
    c.in_err-write_refined.ensures.fault)

pub returns-clause-done : goal.returns-clause-done
returns-clause-done g c =
    wrote _ (is_refined c.requires.some c.requires.few c.in_ok-new.ensures.new) c.in_ok-write_refined.ensures.whole
