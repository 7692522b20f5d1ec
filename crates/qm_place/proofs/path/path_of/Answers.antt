use Rattle.{std.proofs.Common.rules, written_laws.proofs.Spacings.count_ones}

pub invariant_of-result : Rattle.qm_place.proofs.path.path_of.Goals.invariant_of-result
invariant_of-result c = search (rules, count_ones)
