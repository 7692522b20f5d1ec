use Rattle.std.proofs.Common.{rules, ◌≡◌, get_or, false, arith}
use Rattle.qm_sing.{specs.Rings.is_seed, proofs.Floods.filter_on, proofs.Floods.filter_off, proofs.Numberings.mark_test}
use Rattle.qm_sing.{proofs.origins.seeds.Goals.then-marks-v+in_ok-push, proofs.origins.seeds.Goals.else-marks-v}

pub loop-v-preserved : Rattle.qm_sing.proofs.origins.seeds.Goals.loop-v-preserved
loop-v-preserved c =
    let t : get_or c.args.marks.now c.loop-v.v false ≡ is_seed c.args.mesh.now c.loop-v.v = search (rules, mark_test) in
    let seeds = is_seed c.args.mesh.now in
    grind (arith, c.if-marks-v.branch, filter_on seeds c.loop-v.v, filter_off seeds c.loop-v.v, t)
