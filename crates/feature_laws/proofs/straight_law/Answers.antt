use Rattle.feature_laws.proofs.Conforming.{straight_law}

pub returns : Rattle.feature_laws.proofs.straight_law.Goals.returns
returns c = straight_law
