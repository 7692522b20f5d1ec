use Rattle.{std.proofs.Common.rules, qm_top.proofs.Naming.named_where}

pub invariant_of-result : Rattle.qm_top.proofs.named.named_place.Goals.invariant_of-result
invariant_of-result c = search (rules, named_where)
