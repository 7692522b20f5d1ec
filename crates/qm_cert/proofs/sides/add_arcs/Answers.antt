use Rattle.{std.proofs.Common.arith, qm_cert.proofs.Checked.sides_low}
use Rattle.qm_cert.proofs.sides.add_arcs.Goals as goal

pub add_arc-requires-clause-small : goal.add_arc-requires-clause-small
add_arc-requires-clause-small c =
    let lengths = c.args.lengths.now in
    λ v. omega (
      arith,
      sides_low lengths.net.whole.now.nodes lengths.net.whole.now.arcs.items lengths.x.now c.args.plus c.loop-k.k
          c.loop-k.sums lengths.all (omega (arith, lengths.all.count)) c.loop-k.invariant v,
      lengths.net.bounds.few,
      lengths.all.count,
    )
