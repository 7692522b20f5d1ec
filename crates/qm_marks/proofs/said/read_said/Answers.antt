use Rattle.std.proofs.Common.{sym, ◌∙◌}
use Rattle.qm_marks.proofs.Pieces.{some_of, too_many}

pub returns-then-is_some : Rattle.qm_marks.proofs.said.read_said.Goals.returns-then-is_some
returns-then-is_some c =
    let cut = some_of c.cut_blank-3.result _ _ c.cut_blank-3.ensures (sym c.is_some.ensures ∙ c.if-is_some.true) in
    too_many c.args.text.now c.in-Some.behind.now c.in-Some-cut_blank.last.now cut.0.1.now c.in-Some.u.now
    c.in-Some-cut_blank.v.now cut.0.0.now c.in-Some.ensures c.in-Some-cut_blank.ensures cut.1
