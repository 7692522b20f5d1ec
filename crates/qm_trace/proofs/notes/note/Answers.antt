use Rattle.std.proofs.Common.{rules, refl}
use Rattle.qm_trace.proofs.{Noting.has_room, Noting.one_note}
use Rattle.qm_trace.proofs.notes.note.Goals as goal

pub unwrap-requires : goal.unwrap-requires
unwrap-requires c = c.push.ensures.succeeds (search (rules, has_room))

pub returns-clause-notes : goal.returns-clause-notes
returns-clause-notes c = one_note c.args.notes.now _ c.args.r c.args.d c.requires.notes c.requires.rider c.requires.dart
    c.requires.fresh c.requires.alone refl refl refl (search rules) c.push.ensures.capacity
