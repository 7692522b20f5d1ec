use Rattle.{std.proofs.Common.arith, mesh_laws.proofs.Chains.is_fan}

pub bounds-self-d : Rattle.qm_feature.proofs.breaking.Crossing.is_touched.Goals.bounds-self-d
bounds-self-d c = let s = c.args.self.now in omega (
  arith,
  (is_fan s.mesh.now s.vertex c.fan-d-items.result.now c.fan-d-items.ensures).dart c.loop-d.d-index c.loop-d-test.true,
  s.long,
)
