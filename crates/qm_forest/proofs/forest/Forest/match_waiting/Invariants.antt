use Rattle.std.proofs.Common.{ℕ, ◌-◌, length}
use Rattle.qm_forest.specs.Rounds.{HasRoom, IsRound, WaitWithin}

abbrev pub invariant-loop-k : Rattle.qm_forest.proofs.forest.Forest.match_waiting.Given.invariant-loop-k
invariant-loop-k l = record {
  room : HasRoom l.self l.round;
  done : (rest due : ℕ → ℕ) → IsRound l.self l.fn.round.marks.items l.fn.round.left_out.items rest due
      → IsRound l.self l.round.marks.items l.round.left_out.items rest due;
  later : WaitWithin l.round.left_out.items l.sets (length l.sets - l.k);
}
