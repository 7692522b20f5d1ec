use Rattle.std.proofs.{Common.rules, lemmas.List.Sorted.IsNonDecreasingBy-from_sort}

pub returns-clause-rising : Rattle.qm_marks.proofs.ends.sort.Goals.returns-clause-rising
returns-clause-rising c = search (rules, IsNonDecreasingBy-from_sort)
