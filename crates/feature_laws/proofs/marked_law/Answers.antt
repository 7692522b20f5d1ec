use Rattle.feature_laws.proofs.Conforming.{marked_law}

pub returns : Rattle.feature_laws.proofs.marked_law.Goals.returns
returns c = marked_law
