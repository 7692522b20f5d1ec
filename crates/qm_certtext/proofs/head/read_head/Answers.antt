use Rattle.qm_certtext.proofs.Cutting.{head_read}

pub returns : Rattle.qm_certtext.proofs.head.read_head.Goals.returns
returns c = head_read c.args.line.now c.read_asked.result c.read_asked.ensures
