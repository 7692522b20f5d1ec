use Rattle.{std.proofs.Common.rules, forest_laws.proofs.Odds.few_sets, forest_laws.proofs.Odds.no_sets}

pub returns : Rattle.forest_laws.proofs.ends.few_law.Goals.returns
returns c = search (rules, few_sets, no_sets)
