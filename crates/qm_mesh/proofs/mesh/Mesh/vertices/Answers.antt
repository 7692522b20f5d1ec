use Rattle.std.proofs.{Common.ℕ, Common.arith, lemmas.List.length-map}
use Rattle.smallvec.specs.SmallVec.{SmallVec}

pub overflow_cast-result : Rattle.qm_mesh.proofs.mesh.Mesh.vertices.Goals.overflow_cast-result
overflow_cast-result c =
    let fans = c.self.inside.fans in
    let count = length-map fans.items (λ (fan : SmallVec ℕ). fan.items) in
    omega (arith, c.len.ensures, fans.ok.0, c.self.invariant.each_fan.long, c.self.invariant.small)
