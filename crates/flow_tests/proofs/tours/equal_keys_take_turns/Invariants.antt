use Rattle.std.proofs.Common.{◌≡◌, length}

abbrev pub invariant-loop-key : Rattle.flow_tests.proofs.tours.equal_keys_take_turns.Given.invariant-loop-key
invariant-loop-key g l = length l.tour ≡ 2
