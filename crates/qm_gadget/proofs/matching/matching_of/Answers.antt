use Rattle.std.proofs.Common.{arith, rules}
use Rattle.qm_gadget.proofs.Told.{gadget_ready, gadget_short, gadget_matching}
use Rattle.qm_gadget.proofs.matching.matching_of.Goals as goal

pub invariant_of-boxes-clause-ready : goal.invariant_of-boxes-clause-ready
invariant_of-boxes-clause-ready c = grind (arith, gadget_ready c.args.net.now.bounds c.requires.gadget)

pub matching_by-requires-clause-short : goal.matching_by-requires-clause-short
matching_by-requires-clause-short c = rw (c.deref.ensures.value, c.deref-2.ensures.value)
    (gadget_short c.args.net.now.bounds c.requires.gadget c.args.x2.now c.requires.inside)

pub returns : goal.returns
returns c = search (rules, gadget_matching c.args.net.now.bounds c.requires.gadget c.args.x2.now)
