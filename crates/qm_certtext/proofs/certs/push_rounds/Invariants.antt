use Rattle.std.proofs.Common.{drop, ◌++◌, ◌≡◌}
use Rattle.{def_certtext.specs.CertLines.text_of, qm_certtext.specs.RoundLines.round_lines}

abbrev pub invariant-loop-round : Rattle.qm_certtext.proofs.certs.push_rounds.Given.invariant-loop-round
invariant-loop-round l = l.text.items ++ text_of (round_lines (drop l.round-index l.rounds)) ≡ l.fn.text.items ++
    text_of (round_lines l.rounds)
