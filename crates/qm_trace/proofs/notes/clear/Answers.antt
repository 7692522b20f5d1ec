use Rattle.std.proofs.Common.{rules, ◌≡◌, ℕ, Some, None, sym, ◌∙◌, arith}
use Rattle.qm_trace.proofs.{Noting.all_same, Noting.are_none, notes.clear.Goals.After-clear_each}
use Rattle.{def_cut.specs.Events.note_at, motion_laws.proofs.Marks.noted_among, motion_laws.proofs.Marks.noted_where}
use Rattle.qm_trace.proofs.notes.clear.Goals as goal

pub clear_each-requires-clause-notes : goal.clear_each-requires-clause-notes
clear_each-requires-clause-notes c r a =
    let d : (d : ℕ) × (note_at c.args.notes.now.noted.items r ≡ Some d) = search rules in
    (d.0, d.1, c.requires.low d.0 (noted_among c.args.notes.now.noted.items r d.0 d.1))

pub clear_each-requires-clause-taken : goal.clear_each-requires-clause-taken
clear_each-requires-clause-taken c d on = search (rules, noted_where)

-- No note is left.
none : (c : After-clear_each) (r : ℕ) → note_at c.clear_each.new.noted.items r ≡ None
none c = search rules

pub returns-clause-noted : goal.returns-clause-noted
returns-clause-noted c = search (rules, all_same)

pub returns-clause-settled : goal.returns-clause-settled
returns-clause-settled c = search (rules, all_same, none)

pub returns-clause-notes : goal.returns-clause-notes
returns-clause-notes c =
    let no = none (goal.at.returns-clause-notes c).After-clear_each in
    are_none _ _ (all_same _ _ no) (search rules) (c.requires.notes.places_long ∙ sym c.clear_each.ensures.taken_long)
    c.clear.ensures.items (omega (arith, c.clear_each.ensures.long, c.requires.notes.room, c.clear.ensures.capacity))
