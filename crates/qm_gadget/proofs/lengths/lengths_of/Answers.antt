use Rattle.std.proofs.Common.{rules, arith}
use Rattle.qm_gadget.proofs.Told.{gadget_ready, gadget_edges, gadget_wide, gadget_lengths}
use Rattle.qm_gadget.proofs.lengths.lengths_of.Goals as goal

pub overflow_cast-len : goal.overflow_cast-len
overflow_cast-len c = search (rules, gadget_edges c.args.net.now.bounds c.requires.gadget)

pub invariant_of-boxes-clause-ready : goal.invariant_of-boxes-clause-ready
invariant_of-boxes-clause-ready c = grind (arith, gadget_ready c.args.net.now.bounds c.requires.gadget)

pub lengths_over-requires-clause-edges : goal.lengths_over-requires-clause-edges
lengths_over-requires-clause-edges c = search (
  rules,
  gadget_edges c.args.net.now.bounds c.requires.gadget,
  gadget_wide c.args.net.now.bounds c.requires.gadget,
)

pub returns : goal.returns
returns c =
    search (rules, gadget_lengths c.args.net.now.bounds c.requires.gadget c.args.m.now c.requires.perfect c.len.result)
