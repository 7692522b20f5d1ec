use Rattle.qm_output.proofs.Prefixes.{held_broke}

pub returns-in-Err-clause-part : Rattle.qm_output.proofs.buffer.Buffer.flush.Goals.returns-in-Err-clause-part
returns-in-Err-clause-part g c = held_broke _ _ _ _ _ _ c.in-Err.ensures.prefix c.in-Err.ensures.cause.failed
