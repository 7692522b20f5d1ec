use Rattle.std.proofs.{Common.rules, lemmas.List.Sorted.sum_by-IsPermutation}

pub returns : Rattle.qm_stitch.proofs.keyed.keys_of.Goals.returns
returns c = search (rules, sum_by-IsPermutation)
