use Rattle.std.proofs.Common.{◌≡◌, arith}
use Rattle.{def_mesh.specs.Darts.to_of, qm_mesh.proofs.Vertices.end_low, mesh_laws.proofs.Flood.all_below}

pub returns-clause-vertex : Rattle.qm_mesh.proofs.mesh.Mesh.to.Goals.returns-clause-vertex
returns-clause-vertex c =
    let e : c.to.result ≡ to_of c.args.self.now c.args.d =
    rw (← c.self.view_is, ← c.deref.ensures.value) c.to.ensures in
    omega (arith, end_low c.args.self.now _ c.args.d (all_below c.args.self.now) c.requires)
