use Rattle.std.proofs.Common.{Err, ap}
use Rattle.qm_check.proofs.old.mesh_of.Goals as goal

pub returns-in-Err-NotManifold-clause-refused : goal.returns-in-Err-NotManifold-clause-refused
returns-in-Err-NotManifold-clause-refused c text said =
    let bad = c.in-Err-NotManifold.ensures.refused c.in-Err-NotManifold.place c.in-Err-NotManifold.soup
    (ap Err c.in-Err-NotManifold.field-0-is) in
    rw bad.0 (said, bad.1, bad.2)
