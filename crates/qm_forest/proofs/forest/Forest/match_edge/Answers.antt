use Rattle.std.proofs.Common.{rules, ◌≡◌, ◌+◌, ◌*◌, true, false, refl, sym, ◌∙◌, ap}
use Rattle.qm_forest.specs.Rounds.{matches, near_at}
use Rattle.qm_forest.proofs.forest.Forest.match_edge.Goals.{After-is_mate-matched, After-outermost-b}
use Rattle.qm_forest.proofs.MateRounds.{dart_is, edge_more, edge_same, matches_is}
use Rattle.{def_forest.specs.Tables.forest_of, forest_laws.proofs.Grows.true_false}
use Rattle.qm_forest.proofs.forest.Forest.match_edge.Goals as goal

a_is : (c : After-is_mate-matched) → c.outermost-a.result
    ≡ (forest_of c.args.self.now).out (near_at c.args.self.now (2 * c.args.e))
a_is c = c.outermost-a.ensures.value ∙ ap (forest_of c.args.self.now).out c.start_of.ensures

b_is : (c : After-outermost-b) → c.outermost-b.result
    ≡ (forest_of c.args.self.now).out (near_at c.args.self.now (2 * c.args.e + 1))
b_is c = c.outermost-b.ensures.value ∙ ap (forest_of c.args.self.now).out c.start_of-then-matched.ensures

pub pair-requires-clause-pairing : goal.pair-requires-clause-pairing
pair-requires-clause-pairing c =
    let on : matches c.args.self.now c.args.e ≡ true = sym (search rules) ∙ c.if-matched.true in
    rw (a_is _, b_is _) (matches_is c.requires.room.laminar c.requires.room.sound.1 _ on).pairing

pub returns-then-matched-clause-done : goal.returns-then-matched-clause-done
returns-then-matched-clause-done c =
    let at = goal.at.returns-then-matched-clause-done c in
    let on : matches c.args.self.now c.args.e ≡ true = sym (search rules) ∙ c.if-matched.true in
    edge_more c.requires.room.laminar c.requires.room.sound.1 _ _ refl c.requires.room.marks c.requires.room.left_out
    (matches_is c.requires.room.laminar c.requires.room.sound.1 _ on).mate c.pair.ensures.marks (rw
    (a_is at.After-is_mate-matched, b_is at.After-outermost-b) at c.pair.ensures.left_out) c.requires.begun

pub returns-else-matched-clause-done : goal.returns-else-matched-clause-done
returns-else-matched-clause-done c = search (rules, false, edge_same, true_false, dart_is)
