use Rattle.std.proofs.{Common.rules, Common.◌+◌, Common.◌∙◌, Common.◌≡◌}
use Rattle.qm_obj.proofs.JoinLemmas.{joined_logical, joined_short, same_took}
use Rattle.qm_obj.{proofs.read.take_joined.Goals.After-deref, specs.Lines.first_logical, specs.Lines.line_as}
use Rattle.{def_io.specs.Lines.lines_of, std.specs.Prelude.slice_range}
use Rattle.qm_obj.proofs.read.take_joined.Goals as goal

pub take-requires : goal.take-requires
take-requires c = search (rules, joined_short)

-- The line that is read is the first logical one.
same : (c : After-deref) → let rest = c.args.rest.now in line_as (rest.first + 1) c.in_ok-joined.joined.size
    c.deref.result.now ≡ first_logical (rest.first + 1) (slice_range (lines_of rest.lines.now) rest.first rest.after)
same c =
    let rest = c.args.rest.now in
    joined_logical (slice_range (lines_of rest.lines.now) rest.first rest.after) (rest.first + 1)
    c.in_ok-joined.ensures.size (c.deref.ensures.value ∙ c.in_ok-joined.ensures.bytes)

pub returns-clause-kept : goal.returns-clause-kept
returns-clause-kept c = same_took (same (goal.at.returns-clause-kept c).After-deref) c.in_ok-take.ensures.kept

pub returns-in_err-take-clause-refused : goal.returns-in_err-take-clause-refused
returns-in_err-take-clause-refused c = search (rules, same)
