use Rattle.qm_obj.proofs.soup.read_soup.Goals as goal

pub returns-clause-soup : goal.returns-clause-soup
returns-clause-soup g c =
    let whole = c.in_ok-feed.ensures.whole in
    record { bytes = whole.text; whole = whole.whole; said = c.in_ok-finish.ensures.soup whole.text whole.stands }
