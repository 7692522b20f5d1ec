use Rattle.std.proofs.Common.{rules}
use Rattle.qm_certtext.proofs.Found.{found_old, found_more}
use Rattle.qm_io.proofs.Cuts.{cut_behind, cut_ended, cut_is, cut_there, lines_few, rest_low, whole_tail}
use Rattle.qm_certtext.proofs.last.find_last.Goals as goal

pub lines-init : goal.lines-init
lines-init c = search (rules, whole_tail)

pub overflow_sub-at : goal.overflow_sub-at
overflow_sub-at c = rest_low c.args.bytes.now c.lines.rest.now c.lines.i c.lines.invariant.rest

pub overflow_add-i : goal.overflow_add-i
overflow_add-i c = search (rules, cut_there, lines_few)

pub lines-preserved : goal.lines-preserved
lines-preserved c =
    let i = c.lines.invariant in
    let cut = c.in-Some.ensures in
    let there = cut_there c.args.bytes.now _ _ i.rest _ _ cut.line cut.rest in
    search (rules, cut_behind, found_more, cut_is)

pub returns-clause-last : goal.returns-clause-last
returns-clause-last c = search (rules, cut_ended)

pub returns-clause-old : goal.returns-clause-old
returns-clause-old c = found_old c.args.prefix.now c.args.bytes.now c.lines.i c.lines.found c.lines.invariant.found
