use Rattle.qm_output.proofs.Prefixes.{text_broke}

pub returns-in-Err-clause-part : Rattle.qm_output.proofs.buffer.Buffer.pass.Goals.returns-in-Err-clause-part
returns-in-Err-clause-part g c =
    text_broke _ _ _ _ _ _ _ c.requires.empty c.in-Err.ensures.prefix c.in-Err.ensures.cause.failed
