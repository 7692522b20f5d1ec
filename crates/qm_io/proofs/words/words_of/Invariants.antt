use Rattle.std.proofs.Common.{length, map, string_bytes}
use Rattle.qm_io.specs.WordLists.{ReadsSome}

abbrev pub invariant-words : Rattle.qm_io.proofs.words.words_of.Given.invariant-words
invariant-words g l =
    record { read : ReadsSome (length l.buffer) (g.W.CommandLine.given l.line) l.i (map string_bytes l.words.items) }
