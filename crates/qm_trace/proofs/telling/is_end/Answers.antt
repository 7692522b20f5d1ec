use Rattle.mesh_laws.proofs.Chains.{is_fan}

pub prev-requires : Rattle.qm_trace.proofs.telling.is_end.Goals.prev-requires
prev-requires c = (is_fan _ _ _ c.fan-e-items.ensures).dart c.loop-e.e-index c.loop-e-test.true
