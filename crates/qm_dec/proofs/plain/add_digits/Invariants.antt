use Rattle.std.proofs.Common.{◌≡◌, ◌-◌, map, take, true}
use Rattle.std.specs.{Char.is_ascii_digit, Int.Digits.number_from_digits_after, List.list_all}

-- the digits so far
abbrev pub invariant-loop-i : Rattle.qm_dec.proofs.plain.add_digits.Given.invariant-loop-i
invariant-loop-i l = record {
  digits : list_all is_ascii_digit (take l.i l.text) ≡ true;
  so_far : l.value ≡ number_from_digits_after 10 l.fn.value (map (λ d. d - 48) (take l.i l.text));
}
