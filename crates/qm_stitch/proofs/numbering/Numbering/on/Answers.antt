use Rattle.qm_stitch.proofs.Grids.{tables_are}

pub invariant_of-result : Rattle.qm_stitch.proofs.numbering.Numbering.on.Goals.invariant_of-result
invariant_of-result c = record { numbers = tables_are (rw c.self.view_is c.requires) }
