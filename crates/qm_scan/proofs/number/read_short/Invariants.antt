use Rattle.std.proofs.Common.{◌≡◌, take, true}
use Rattle.{std.specs.Char.is_ascii_digit, std.specs.List.list_all, def_text.specs.Digits.number_written}

abbrev pub invariant-loop-byte : Rattle.qm_scan.proofs.number.read_short.Given.invariant-loop-byte
invariant-loop-byte l = record {
  digits : list_all is_ascii_digit (take l.byte-index l.word) ≡ true;
  so_far : l.n ≡ number_written (take l.byte-index l.word);
}
