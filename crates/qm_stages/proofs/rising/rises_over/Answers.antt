use Rattle.qm_stages.proofs.Positions.{arcs_long}

pub needed_rises-requires : Rattle.qm_stages.proofs.rising.rises_over.Goals.needed_rises-requires
needed_rises-requires c = record {
  layout = rw c.layout.ensures.layout c.layout.ensures.laid.0;
  long = arcs_long c.layout.result.now c.layout.ensures.layout c.requires.long;
  lengths = rw (← c.layout.ensures.layout) at c.requires.lengths;
  few = c.requires.few;
  coarse = rw (← c.layout.ensures.layout) at c.requires.coarse;
  doubled = rw (← c.layout.ensures.layout) at c.requires.doubled;
  prices = c.requires.prices;
}
