use Rattle.{std.proofs.Common.rules, std.proofs.lemmas.List.length-drop, qm_io.proofs.Cuts.lines_few}

pub read_certs-requires : Rattle.qm_check.proofs.judging.read_certificates.Goals.read_certs-requires
read_certs-requires c = search (rules, length-drop, lines_few)
