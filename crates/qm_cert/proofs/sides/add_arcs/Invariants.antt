use Rattle.qm_cert.specs.Sides.{AreSides}

abbrev pub invariant-loop-k : Rattle.qm_cert.proofs.sides.add_arcs.Given.invariant-loop-k
invariant-loop-k l =
    let net = l.lengths.net.whole.now in AreSides net.nodes net.arcs.items l.lengths.x.now l.plus l.k l.sums
