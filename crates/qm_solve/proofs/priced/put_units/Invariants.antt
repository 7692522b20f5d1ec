use Rattle.std.proofs.Common.{◌≡◌, length}

-- As many numbers as before.
abbrev pub invariant-loop : Rattle.qm_solve.proofs.priced.put_units.Given.invariant-loop
invariant-loop l = length l.wishes.numbers.items ≡ length l.initial.wishes.numbers.items
