use Rattle.std.proofs.{Common.rules, lemmas.List.Sorted.IsNonDecreasingBy-from_sort}

pub returns-clause-increasing : Rattle.qm_stitch.proofs.repeat.sort.Goals.returns-clause-increasing
returns-clause-increasing c = search (rules, IsNonDecreasingBy-from_sort)
