use Rattle.{std.proofs.Common.rules, forest_laws.proofs.WayLaws.end_valid, forest_laws.proofs.WayLaws.end_augmented}

pub returns : Rattle.forest_laws.proofs.steps.end_law.Goals.returns
returns c = search (rules, end_valid, end_augmented)
