use Rattle.qm_stages.proofs.Positions.{arcs_long}

pub are_needed-requires : Rattle.qm_stages.proofs.rising.are_needed_over.Goals.are_needed-requires
are_needed-requires c = record {
  layout = rw c.layout.ensures.layout c.layout.ensures.laid.0;
  long = arcs_long c.layout.result.now c.layout.ensures.layout c.requires.long;
  lengths = rw (← c.layout.ensures.layout) at c.requires.lengths;
  coarse = rw (← c.layout.ensures.layout) at c.requires.coarse;
}
