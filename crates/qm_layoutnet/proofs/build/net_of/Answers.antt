use Rattle.{std.proofs.Common.arith, def_flow.specs.Network.network}
use Rattle.qm_layoutnet.proofs.build.net_of.Goals as goal

pub returns-then-tangle-from-clause-tangled : goal.returns-then-tangle-from-clause-tangled
returns-then-tangle-from-clause-tangled c = record {
  net = network c.in_ok-net.net;
  is = c.in_ok-net.ensures.net;
  told = c.in_ok-tangle.ensures;
  high = omega arith;
}
