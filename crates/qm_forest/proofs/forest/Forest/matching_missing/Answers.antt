use Rattle.std.proofs.Common.{ℕ, ◌+◌, ◌≤◌, arith}
use Rattle.qm_forest.proofs.{Withins.sound, Chosens.matches_but, forest.Forest.matching_missing.Goals.After-match_up}
use Rattle.{def_forest.specs.Tables.ForestTables, qm_forest.specs.Rounds.IsRound, qm_forest.specs.Rounds.waits_but}
use Rattle.qm_forest.proofs.forest.Forest.matching_missing.Goals as goal

-- A blossom waits in a set once at most.
waits_low : (t : ForestTables) (b c v : ℕ) → waits_but t b c v ≤ 1
waits_low t b c v = grind arith

begun : (c : After-match_up) → IsRound c.args.self.now c.match_up.new.round.marks.items
    c.match_up.new.round.left_out.items (λ b. 0) (λ b. waits_but c.args.self.now b c.args.b c.args.v + 0)
begun c = c.match_up.ensures.done _ _ (c.in_ok-round.ensures.begun (λ b. waits_but c.args.self.now b c.args.b c.args.v
    + 0) (λ w l. omega (arith, waits_low c.args.self.now w c.args.b c.args.v)))

pub match_waiting-requires-clause-begun : goal.match_waiting-requires-clause-begun
match_waiting-requires-clause-begun c = (_, _, begun (goal.at.match_waiting-requires-clause-begun c).After-match_up)

pub returns : goal.returns
returns c g is valid = matches_but c.match_waiting.ensures.room.laminar (sound is valid)
    c.match_waiting.ensures.room.marks (rw c.deref-2.ensures.value at c.list_marked.ensures) _ _ c.requires.held.vertex
    (c.match_waiting.ensures.done _ _ (begun (goal.at.returns c).After-match_up)) c.match_waiting.ensures.ended
