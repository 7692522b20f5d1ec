use Rattle.{std.proofs.Common.rules, std.proofs.lemmas.List.take_all, qm_dec.proofs.FewDigits.size_small}

pub overflow_mul-result : Rattle.qm_dec.proofs.plain.with_fraction.Goals.overflow_mul-result
overflow_mul-result c = search (rules, take_all, size_small)
