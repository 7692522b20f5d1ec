use Rattle.qm_report.proofs.{Layouts.none_breaks, Texts.nothing_behind}

pub returns-in-None : Rattle.qm_report.proofs.layout.push_breaks.Goals.returns-in-None
returns-in-None c =
    rw (c.in-None.is, none_breaks) (nothing_behind c.args.text.now.items)
