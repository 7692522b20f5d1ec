use Rattle.std.proofs.Common.{◌≡◌, ◌-◌, map, take}
use Rattle.{std.specs.Int.Digits.number_from_digits_after, qm_dec.specs.Sizes.clamped}

-- the digits so far
abbrev pub invariant-loop-digit : Rattle.qm_dec.proofs.size.number_after.Given.invariant-loop-digit
invariant-loop-digit l =
    l.value ≡ clamped (number_from_digits_after 10 l.fn.value (map (λ d. d - 48) (take l.digit-index l.digits)))
