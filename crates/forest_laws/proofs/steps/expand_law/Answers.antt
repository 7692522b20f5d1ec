use Rattle.{std.proofs.Common.refl, forest_laws.proofs.Expands.opened_valid}

pub returns : Rattle.forest_laws.proofs.steps.expand_law.Goals.returns
returns c = λ g f root new o are valid opening is. opened_valid
    (record { are = are; valid = valid; tree = valid.tree root refl; opening = opening; is = is })
