use Rattle.std.proofs.Common.{◌≡◌, length}
use Rattle.qm_forest.specs.Rounds.{HasRoom, IsRound, matched_by}

abbrev pub invariant-loop-e : Rattle.qm_forest.proofs.forest.Forest.match_mates.Given.invariant-loop-e
invariant-loop-e l = record {
  room : HasRoom l.self l.round;
  edges : length l.round.marks.items ≡ length l.fn.round.marks.items;
  done : IsRound l.self l.round.marks.items l.round.left_out.items (λ b. 0) (matched_by l.self l.e);
}
