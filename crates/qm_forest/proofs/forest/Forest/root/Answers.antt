use Rattle.{std.proofs.Common.rules, qm_forest.proofs.Meeting.valid_rooted}

pub returns-clause-valid : Rattle.qm_forest.proofs.forest.Forest.root.Goals.returns-clause-valid
returns-clause-valid c = search (rules, valid_rooted)
