use Rattle.{std.proofs.Common.rules, qm_layoutnet.proofs.Floors.all_floored}

pub returns : Rattle.qm_layoutnet.proofs.floor.put_floor.Goals.returns
returns c = search (rules, all_floored)
