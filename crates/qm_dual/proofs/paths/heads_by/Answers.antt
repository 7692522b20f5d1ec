use Rattle.std.proofs.Common.{slice_index, arith}

pub returns : Rattle.qm_dual.proofs.paths.heads_by.Goals.returns
returns c = record {
  count = c.loop-k.invariant.count;
  picks = slice_index c.args.picking.now.numbers.now;
  each = λ k l. c.loop-k.invariant.each k (omega arith) l;
}
