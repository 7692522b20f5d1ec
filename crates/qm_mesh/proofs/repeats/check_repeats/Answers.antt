use Rattle.{std.proofs.Common.rules, qm_mesh.proofs.Corners.repeat_free_from}

pub returns-clause-ok : Rattle.qm_mesh.proofs.repeats.check_repeats.Goals.returns-clause-ok
returns-clause-ok c = search (rules, repeat_free_from)
