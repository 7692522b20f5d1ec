use Rattle.std.proofs.{Common.rules, lemmas.Fmt.decimal_injective}

pub returns-in_default : Rattle.qm_certtext.proofs.line.read_floor.Goals.returns-in_default
returns-in_default c = search (rules, decimal_injective)
