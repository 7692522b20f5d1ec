use Rattle.{std.proofs.Common.arith, qm_grid.proofs.HeadTables.heads_done}

pub returns : Rattle.qm_grid.proofs.heads.fill_heads.Goals.returns
returns c = record {
  heads = heads_done c.is_full.ensures c.loop-d.invariant (omega (arith, c.is_full.ensures.long, c.loop-d-test.false));
}
