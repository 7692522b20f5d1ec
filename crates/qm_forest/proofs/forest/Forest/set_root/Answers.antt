use Rattle.{std.proofs.Common.ap, def_forest.specs.Tables.forest_of}

pub returns-clause-seen : Rattle.qm_forest.proofs.forest.Forest.set_root.Goals.returns-clause-seen
returns-clause-seen c = ap forest_of c.self.view_is
