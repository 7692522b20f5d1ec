use Rattle.forest_laws.proofs.Shrinks.{shrunk_valid}

pub returns : Rattle.forest_laws.proofs.steps.shrink_law.Goals.returns
returns c = λ g f root new inside top b front many are valid tree cycle unused row is. shrunk_valid
    (record { are = are; valid = valid; tree = tree; cycle = cycle; unused = unused; row = row; is = is })
