pub returns : Rattle.qm_stages.proofs.regridded.Regridded.numbered.Goals.returns
returns c = rw (← c.self.view_is) (record {
  layout = cc (c.on.ensures.layout, c.layout.ensures.layout);
  lengths = cc c.on.ensures.tables;
  laid = c.layout.ensures.laid;
  even = c.self.invariant.0.lengths;
})
