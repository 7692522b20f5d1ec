use Rattle.qm_certtext.proofs.Texts.{written_law}

pub returns : Rattle.qm_certtext.proofs.law.written_law.Goals.returns
returns c = written_law
