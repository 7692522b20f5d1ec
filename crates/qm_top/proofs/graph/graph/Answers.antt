use Rattle.{std.proofs.Common.refl, qm_top.proofs.Refusals.halts}

pub returns-in_err-read_mesh : Rattle.qm_top.proofs.graph.graph.Goals.returns-in_err-read_mesh
returns-in_err-read_mesh g c =
    halts c.in_err-read_mesh.field-0.0 tt c.from_residual.ensures.1 c.in_err-read_mesh.ensures.refused refl
