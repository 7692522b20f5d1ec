use Rattle.std.proofs.{Common.sym, Common.◌∙◌, lemmas.Bool.false≢true}
use Rattle.def_remesh.specs.Refined.{refined_text}
use Rattle.qm_check.proofs.Pairs.{longer_differ, stopped_differ}
use Rattle.qm_check.proofs.refined.compare_refined.Goals as goal

pub returns-in-Ok-2-clause-other : goal.returns-in-Ok-2-clause-other
returns-in-Ok-2-clause-other c = longer_differ c.args.given.now.bytes.now (refined_text c.args.by c.args.new.now.soup
    c.args.new.now.layout) c.new-comparison.ensures c.at.ensures c.other_from.ensures c.in-Ok-2.ensures.whole
    (λ none. false≢true (sym c.if-is_over.false ∙ c.is_over.ensures.1 none))

pub returns-in-Err-clause-other : goal.returns-in-Err-clause-other
returns-in-Err-clause-other c =
    stopped_differ c.args.given.now.bytes.now (refined_text c.args.by c.args.new.now.soup c.args.new.now.layout)
    c.new-comparison.ensures c.at-in-Err.ensures c.other_from-in-Err.ensures c.in-Err.ensures.part
