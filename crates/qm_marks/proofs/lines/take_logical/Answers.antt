use Rattle.{std.proofs.Common.rules, std.proofs.Common.◌≡◌, std.specs.Prelude.slice_range, def_io.specs.Lines.lines_of}
use Rattle.qm_marks.proofs.{lines.take_logical.Goals.After-before_comment, lines.take_logical.Goals.After-deref}
use Rattle.qm_obj.{proofs.Groups.group_text, proofs.Groups.single_text, specs.Ahead.text_ahead}
use Rattle.qm_marks.proofs.lines.take_logical.Goals as goal

-- The text of several physical lines, and that of one.
joined_text : (c : After-deref) → c.deref.result.now
    ≡ text_ahead (slice_range (lines_of c.args.given.now.lines.now) c.args.i c.args.given.now.after)
joined_text c = search (rules, group_text)

line_text : (c : After-before_comment) → c.before_comment.result.now
    ≡ text_ahead (slice_range (lines_of c.args.given.now.lines.now) c.args.i c.args.given.now.after)
line_text c = search (rules, single_text)

pub take-requires-clause-room : goal.take-requires-clause-room
take-requires-clause-room c = rw (joined_text c) c.requires.room

pub returns-in_err-take-clause-refused : goal.returns-in_err-take-clause-refused
returns-in_err-take-clause-refused c = search (rules, joined_text)

pub returns-then-may_go_on-clause-took : goal.returns-then-may_go_on-clause-took
returns-then-may_go_on-clause-took c = search (rules, joined_text)

pub take-requires-2-clause-room : goal.take-requires-2-clause-room
take-requires-2-clause-room c = rw (line_text c) c.requires.room

pub returns-in_err-take-2-clause-refused : goal.returns-in_err-take-2-clause-refused
returns-in_err-take-2-clause-refused c = search (rules, line_text)

pub returns-clause-took : goal.returns-clause-took
returns-clause-took c = search (rules, line_text)
