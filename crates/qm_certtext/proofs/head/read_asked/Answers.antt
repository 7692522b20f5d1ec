use Rattle.qm_certtext.proofs.Cutting.{asked_cut, asked_read}
use Rattle.qm_certtext.proofs.head.read_asked.Goals as goal

pub returns-in-Some : goal.returns-in-Some
returns-in-Some c = asked_read c.read_settings.result c.in-Some.ensures c.read_settings.ensures

pub returns-in-None : goal.returns-in-None
returns-in-None c settings auto range is =
    c.in-None.ensures _ _ _ (asked_cut c.args.prefix.now c.args.line.now settings auto range is)
