use Rattle.mesh_laws.proofs.Chains.{is_fan}

pub twin-requires : Rattle.qm_feature.proofs.breaking.Crossing.is_crossed.Goals.twin-requires
twin-requires c = (is_fan c.args.self.now.mesh.now c.args.self.now.vertex c.fan-d-items.result.now
    c.fan-d-items.ensures).dart c.loop-d.d-index c.loop-d-test.true
