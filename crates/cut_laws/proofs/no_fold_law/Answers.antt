use Rattle.cut_laws.proofs.Folds.{no_fold_law}

pub returns : Rattle.cut_laws.proofs.no_fold_law.Goals.returns
returns c = no_fold_law
