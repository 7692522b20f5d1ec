use Rattle.{qm_words.proofs.Unique.accepted, std.proofs.Common.map, std.proofs.Common.string_bytes}

pub returns-clause-accepts : Rattle.qm_words.proofs.read.read_words.Goals.returns-clause-accepts
returns-clause-accepts c command line = accepted (map string_bytes c.args.words.now) command c.read_line.result
    c.read_line.ensures.reads c.read_line.ensures.refuses line
