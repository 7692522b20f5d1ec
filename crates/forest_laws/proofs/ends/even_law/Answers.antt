use Rattle.forest_laws.proofs.Walks.{slack_even}

pub returns : Rattle.forest_laws.proofs.ends.even_law.Goals.returns
returns c = slack_even
