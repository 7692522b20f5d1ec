use Rattle.std.proofs.{Common.ap, Common.Err, Common.sym, Common.◌∙◌, lemmas.Bool.false≢true}
use Rattle.qm_check.proofs.Pairs.{longer_differ, stopped_differ}
use Rattle.qm_write.specs.Framing.{framed_text}
use Rattle.qm_check.proofs.comparing.compare.Goals as goal

pub returns-in-Ok-2-clause-other : goal.returns-in-Ok-2-clause-other
returns-in-Ok-2-clause-other c = longer_differ c.args.given.now.bytes.now (framed_text c.args.framed c.args.cut.soup
    c.args.cut.layout) c.new-comparison.ensures c.at.ensures c.other_from.ensures c.in-Ok-2.ensures.whole
    (λ none. false≢true (sym c.if-is_over.false ∙ c.is_over.ensures.1 none))

pub returns-in-Err-Stopped-clause-other : goal.returns-in-Err-Stopped-clause-other
returns-in-Err-Stopped-clause-other c = stopped_differ c.args.given.now.bytes.now
    (framed_text c.args.framed c.args.cut.soup c.args.cut.layout) c.new-comparison.ensures c.at-in-Err-Stopped.ensures
    c.other_from-in-Err-Stopped.ensures (c.in-Err-Stopped.ensures.part (ap Err c.in-Err-Stopped.field-0-is))
