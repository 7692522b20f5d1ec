use Rattle.qm_match.proofs.Outcomes.{raised_first}

pub returns : Rattle.qm_match.proofs.matcher.usual_weights.Goals.returns
returns c = raised_first c.args.g.now.graph c.in_ok-y.y.items c.requires.cheap c.in_ok-y.ensures
