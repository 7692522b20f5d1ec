use Rattle.qm_certtext.proofs.Cutting.{not_stripped, stripped}
use Rattle.qm_headline.proofs.Sizes.{multiple_read, refine_front}
use Rattle.qm_headline.proofs.mark.read_multiple.Goals as goal

pub returns-in-Some : goal.returns-in-Some
returns-in-Some c = multiple_read c.args.line.now c.in-Some.rest.now c.read_count.result
    (stripped refine_front c.args.line.now c.in-Some.rest.now c.in-Some.ensures.cases.0 c.in-Some.ensures.cases.1)
    c.read_count.ensures

pub returns-in-None : goal.returns-in-None
returns-in-None c by head = not_stripped refine_front c.args.line.now _ c.in-None.ensures.cases head.written
