use Rattle.std.proofs.Common.{ap, arith}
use Rattle.{def_flow.specs.Descent.greatest_floor, qm_solve.proofs.Starts.greatest_low}

pub multiple-requires : Rattle.qm_solve.proofs.start.old_multiple.Goals.multiple-requires
multiple-requires c =
    let net = c.args.net.now.whole.now in
    omega (
      arith,
      greatest_low net.nodes net.arcs.items c.args.net.now.bounds.arcs,
      c.args.net.now.bounds.p_high,
      c.from.ensures,
      c.max.ensures,
      c.greatest_floor.ensures,
      ap greatest_floor c.deref-2.ensures.value,
    )
