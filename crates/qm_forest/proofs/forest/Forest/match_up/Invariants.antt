use Rattle.std.proofs.Common.{◌≡◌, ℕ, ◌+◌, ◌-◌, ◌<◌, ◌⊎◌, cond, get_or, length, true, Some, None}
use Rattle.def_forest.specs.{Forests.walk, Tables.up_at}
use Rattle.qm_forest.specs.Rounds.{HasRoom, IsRound, waits_but, within}
use Rattle.qm_forest.proofs.forest.Forest.match_up.Given as goal

abbrev pub invariant-loop-p : goal.invariant-loop-p
invariant-loop-p l = record {
  above : (j : ℕ) × (walk (up_at l.self.up) l.p j ≡ l.c);
  held : within l.self l.v l.p ≡ true;
  low : l.p < length l.self.up;
  room : HasRoom l.self l.round;
  done : (rest due : ℕ → ℕ) → IsRound l.self l.fn.round.marks.items l.fn.round.left_out.items
      (λ b. waits_but l.self b l.c l.v + rest b) due → IsRound l.self l.round.marks.items l.round.left_out.items
      (λ b. (cond (within l.self b l.p) 0 (waits_but l.self b l.c l.v)) + rest b) due;
  entries : (b w : ℕ) → get_or l.round.left_out.items b None ≡ Some w
      → (get_or l.fn.round.left_out.items b None ≡ Some w) ⊎ (get_or l.self.rank b 0 < get_or l.self.rank l.c 0);
}

abbrev pub decreases-loop-p : goal.decreases-loop-p
decreases-loop-p l = get_or l.self.rank l.c 0 - get_or l.self.rank l.p 0
