use Rattle.qm_stages.proofs.Positions.{patch_low}

pub rim-requires : Rattle.qm_stages.proofs.regridded.Regridded.rim.Goals.rim-requires
rim-requires c = record { patch = patch_low c.placed.result.t.now c.placed.ensures.layout c.requires.patch }
