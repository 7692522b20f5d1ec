use Rattle.feature_laws.proofs.Conforming.{conforming_law}

pub returns : Rattle.feature_laws.proofs.conforming_law.Goals.returns
returns c = conforming_law
