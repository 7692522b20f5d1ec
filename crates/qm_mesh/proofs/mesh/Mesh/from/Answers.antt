use Rattle.{std.proofs.Common.rules, mesh_laws.proofs.Flood.all_below}

pub returns-clause-vertex : Rattle.qm_mesh.proofs.mesh.Mesh.from.Goals.returns-clause-vertex
returns-clause-vertex c = search (rules, all_below)
