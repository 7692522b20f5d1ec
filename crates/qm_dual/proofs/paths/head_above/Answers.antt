use Rattle.{std.proofs.Common.◌-◌, std.proofs.Common.arith, qm_dual.proofs.Tallies.head_later}

pub returns-clause-later : Rattle.qm_dual.proofs.paths.head_above.Goals.returns-clause-later
returns-clause-later c =
    let high = head_later c.args.d.now.nest.nested c.requires.headed (c.args.entry - 1) (omega arith) in
    (omega arith, omega arith)
