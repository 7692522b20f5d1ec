use Rattle.{std.proofs.Common.refl, error_laws.proofs.Errors.handed}

pub returns-in_err-text-clause-refused : Rattle.qm_top.proofs.bench.bench_mesh.Goals.returns-in_err-text-clause-refused
returns-in_err-text-clause-refused g c = handed _ _ _ c.from_residual.ensures.1 (refl, c.in_err-text.ensures.refused)
