use Rattle.qm_fit.proofs.Heads.{least, least_words}

pub returns-in_default-read_settings : Rattle.qm_fit.proofs.words.read_fit.Goals.returns-in_default-read_settings
returns-in_default-read_settings c fit words =
    c.in_default-read_settings.ensures (least fit) fit.auto (least_words fit _ _ _ _ _ _ words)
