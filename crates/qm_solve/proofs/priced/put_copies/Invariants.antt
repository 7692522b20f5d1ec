use Rattle.std.proofs.Common.{◌≡◌, length}
use Rattle.qm_solve.proofs.priced.put_copies.Given as goal

-- As many numbers as before.
abbrev pub invariant-loop : goal.invariant-loop
invariant-loop l = length l.wishes.numbers.items ≡ length l.initial.wishes.numbers.items

abbrev pub invariant-loop-node : goal.invariant-loop-node
invariant-loop-node l = length l.wishes.numbers.items ≡ length l.initial.wishes.numbers.items
