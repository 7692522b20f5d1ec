use Rattle.std.proofs.Common.{rules, ◌≡◌, ◌<◌, length, get_or, Some, None, sym, ◌∙◌, inl, inr}
use Rattle.std.proofs.lemmas.List.{get_or_read}
use Rattle.qm_forest.proofs.{Waitings.taken, forest.Forest.match_set.Goals.In-Some}
use Rattle.qm_forest.proofs.forest.Forest.match_set.Goals as goal

low : (c : In-Some) → c.args.c < length c.args.round.now.left_out.items
low c = rw c.requires.room.left_out c.requires.low

here : (c : In-Some) → get_or c.args.round.now.left_out.items c.args.c None ≡ Some c.in-Some.v
here c = sym (get_or_read c.args.round.now.left_out.items c.args.c _ (low c) c.index.ensures None) ∙ c.in-Some.is

pub match_up-requires-clause-held : goal.match_up-requires-clause-held
match_up-requires-clause-held c =
    let it = c.requires.begun.2.entry c.args.c c.in-Some.v (here (goal.at.match_up-requires-clause-held c).In-Some) in
    record { low = c.requires.low; vertex = it.low; held = it.held }

pub returns-in-Some-clause-done : goal.returns-in-Some-clause-done
returns-in-Some-clause-done c rest due r =
    let at = (goal.at.returns-in-Some-clause-done c).In-Some in
    c.match_up.ensures.done rest due (taken c.args.c c.in-Some.v (low at) (here at) r)

pub returns-in-Some-clause-entries : goal.returns-in-Some-clause-entries
returns-in-Some-clause-entries c b w is = elim (c.match_up.ensures.entries b w is) [
  | inl was ↦ search rules
  | inr less ↦ inr less
]
