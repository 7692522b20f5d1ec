use Rattle.std.proofs.lemmas.Result.{IfOk-weaker}
use Rattle.{def_certtext.specs.Reading.made_of, qm_certtext.proofs.Found.tail_tells}

pub returns-clause-reads : Rattle.qm_certtext.proofs.written.read_written.Goals.returns-clause-reads
returns-clause-reads c = IfOk-weaker c.read_tail.result _ _ (λ written tells. tail_tells c.args.lines.now
    c.tail.result.now c.args.first c.tail.ensures (made_of written) tells) c.read_tail.ensures.reads
