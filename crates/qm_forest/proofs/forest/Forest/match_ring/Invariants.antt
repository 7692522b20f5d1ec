use Rattle.std.proofs.Common.{◌≡◌, ℕ, ◌+◌, ◌-◌, ◌*◌, ◌<◌, ◌⊎◌, get_or, Some, None}
use Rattle.def_forest.specs.{Forests.bool_number, Forests.ring_sum, Forests.walk, Tables.up_at}
use Rattle.qm_forest.specs.Rounds.{HasRoom, IsRound, within}

abbrev pub invariant-loop : Rattle.qm_forest.proofs.forest.Forest.match_ring.Given.invariant-loop
invariant-loop l = record {
  here : l.x ≡ walk (λ k. get_or l.self.after k 0) (get_or l.self.after l.p 0) (2 * l.counter);
  room : HasRoom l.self l.round;
  done : (rest due : ℕ → ℕ) → IsRound l.self l.fn.round.marks.items l.fn.round.left_out.items (λ b. ring_sum
      (λ k. get_or l.self.after k 0) (λ r. bool_number (within l.self b r)) (get_or l.self.after l.p 0)
      (get_or l.self.parts (up_at l.self.up l.p) 0 - 1) + rest b) due → IsRound l.self l.round.marks.items
      l.round.left_out.items (λ b. ring_sum (λ k. get_or l.self.after k 0) (λ r. bool_number (within l.self b r)) l.x
      (get_or l.self.parts (up_at l.self.up l.p) 0 - 1 - 2 * l.counter) + rest b) due;
  entries : (c v : ℕ) → get_or l.round.left_out.items c None ≡ Some v
      → (get_or l.fn.round.left_out.items c None ≡ Some v)
      ⊎ (get_or l.self.rank c 0 < get_or l.self.rank (up_at l.self.up l.p) 0);
}
