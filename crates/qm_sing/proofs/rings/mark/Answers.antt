use Rattle.std.proofs.Common.{rules, ◌≡◌, ◌<◌, length, ap, sym, ◌∙◌, arith}
use Rattle.qm_sing.proofs.Numberings.{number_read, seed_test, marks_on, marks_off}
use Rattle.qm_sing.{specs.Rings.is_seed, proofs.rings.mark.Goals.then-is_least, proofs.rings.mark.Goals.else-is_least}
use Rattle.{def_mesh.specs.Vertices.vertex_count, def_mesh.specs.Darts.from_of, def_mesh.specs.Darts.darts}

pub loop-d-preserved : Rattle.qm_sing.proofs.rings.mark.Goals.loop-d-preserved
loop-d-preserved c = let s = c.args.classed.now in
    let ld : c.loop-d.d < darts s.mesh.now = omega (arith, c.loop-d-test.true, ap length c.faces.ensures.value) in
    let t : c.is_least.result ≡ is_seed s.mesh.now (from_of s.mesh.now c.loop-d.d) = search (rules, seed_test) in
    let low : from_of s.mesh.now c.loop-d.d < vertex_count s.mesh.now =
    omega (arith, c.from-v.ensures.value, c.from-v.ensures.vertex) in
    elim c.if-is_least.branch [
      | then-is_least w ↦ rw (w.marks-is, c.from-v.ensures.value)
          (marks_on low (sym t ∙ w.if-is_least.true) c.loop-d.invariant)
      | else-is_least w ↦ rw w.marks-is (marks_off (sym t ∙ w.if-is_least.false) c.loop-d.invariant)
    ]
