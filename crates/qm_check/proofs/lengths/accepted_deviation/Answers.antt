pub returns-in-Yes-clause-solved : Rattle.qm_check.proofs.lengths.accepted_deviation.Goals.returns-in-Yes-clause-solved
returns-in-Yes-clause-solved c =
    let accepted = c.in_ok-verdict.ensures.accepted.0 (c.in-Yes.deviation, c.in-Yes.is) in
    record {
      accepted = accepted;
      lengths = record { count = accepted.count; small = c.requires.cert.1.reach.short };
      small = c.requires.cert.1.reach.small;
    }
