use Rattle.{def_certtext.specs.CertLines.lists_of, qm_certtext.proofs.Chosen.rounds_are}

pub returns : Rattle.qm_certtext.proofs.written.rounds_of.Goals.returns
returns c = rounds_are c.args.found c.end_round.new.self (lists_of c.in_ok-cert.cert) c.in_ok-end_round.ensures
    c.in_ok-cert.ensures
