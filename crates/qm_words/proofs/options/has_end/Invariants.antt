use Rattle.std.proofs.Common.{drop, map, string_bytes, ◌≡◌}
use Rattle.{std.specs.List.list_any, qm_words.specs.Parsing.is_end}

abbrev pub invariant-loop-word : Rattle.qm_words.proofs.options.has_end.Given.invariant-loop-word
invariant-loop-word l =
    list_any is_end (map string_bytes (drop l.word-index l.words)) ≡ list_any is_end (map string_bytes l.words)
