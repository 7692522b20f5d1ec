use Rattle.{std.proofs.Common.refl, qm_top.proofs.Refusals.halts}

pub returns-in_err-read : Rattle.qm_top.proofs.tidy.tidy.Goals.returns-in_err-read
returns-in_err-read g c = halts c.in_err-read.field-0.0 tt c.from_residual.ensures.1 c.in_err-read.ensures.refused refl
