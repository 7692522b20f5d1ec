use Rattle.qm_stages.proofs.Positions.{patch_low}

pub home-requires : Rattle.qm_stages.proofs.regridded.Regridded.home.Goals.home-requires
home-requires c = record {
  patch = patch_low c.placed.result.t.now c.placed.ensures.layout c.requires.patch;
  column = rw (← c.placed.ensures.layout, ← c.placed.ensures.lengths) at c.requires.column;
  row = rw (← c.placed.ensures.layout, ← c.placed.ensures.lengths) at c.requires.row;
}
