use Rattle.std.proofs.Common.{rules, ◌≡◌, ℕ, ◌<◌, List, length, get_or, ap, arith}
use Rattle.{std.proofs.lemmas.List.length-map, qm_mesh.proofs.Vertices.fan_found}
use Rattle.def_mesh.specs.{Faces.Faces, Vertices.faces_at, Vertices.vertex_count}
use Rattle.{smallvec.specs.SmallVec.SmallVec, qm_mesh.specs.Tables.IsMeshOf, mesh_laws.proofs.Flood.fan_short}
use Rattle.qm_mesh.proofs.mesh.Mesh.faces_at.Goals as goal

count : {faces : Faces} {twins : List ℕ} {fans : List (SmallVec ℕ)} (v : ℕ) (fan : SmallVec ℕ)
    → IsMeshOf faces twins fans → v < vertex_count faces → fan ≡ get_or fans v fan → length fan.items ≡ faces_at faces v
count {fans = fans} v fan k l e = ap length (fan_found _ _ v fans fan k.each_fan
    (omega (arith, k.each_fan.long, length-map fans (λ (f : SmallVec ℕ). f.items))) e)

pub overflow_cast-result : goal.overflow_cast-result
overflow_cast-result c =
    let k = rw c.self.view_is at c.self.invariant in
    omega (arith, count c.args.v _ k c.requires c.index.ensures, fan_short c.args.self.now c.args.v)

pub returns : goal.returns
returns c = search (rules, count)
