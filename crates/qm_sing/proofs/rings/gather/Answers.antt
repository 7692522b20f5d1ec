use Rattle.std.proofs.Common.{rules, ◌≡◌, ◌<◌, length, ap, refl, arith}
use Rattle.def_mesh.specs.{Darts.darts, declared.Kind.TheVariants.Regular}
use Rattle.qm_sing.proofs.{Numberings.kind_read, Numberings.regular_is, Numberings.number_read, Longest.kinds_long}
use Rattle.qm_sing.proofs.{Longest.number_there, Longest.numbers_long, Numberings.rings_more}
use Rattle.qm_sing.proofs.rings.gather.Goals as goal

pub bounds-classed-d : goal.bounds-classed-d
bounds-classed-d c = omega (arith, numbers_long _ c.args.classed.now.numbers, ap length c.faces.ensures.value)

pub bounds-classed-v : goal.bounds-classed-v
bounds-classed-v c = search (rules, kinds_long)

pub take_corner-requires-clause-regular : goal.take_corner-requires-clause-regular
take_corner-requires-clause-regular c = search (rules, number_there)

pub take_corner-requires-clause-least : goal.take_corner-requires-clause-least
take_corner-requires-clause-least c = search (rules, number_there)

pub loop-d-preserved : goal.loop-d-preserved
loop-d-preserved c = let s = c.args.classed.now in
    let ld : c.loop-d.d < darts s.mesh.now = omega (arith, c.loop-d-test.true, ap length c.faces.ensures.value) in
    let kind = kind_read _ _ c.from-v.result Regular c.from-v.ensures.vertex s.classes in
    search (rules, rings_more, regular_is)

pub returns : goal.returns
returns c =
    let all : c.loop-d.d ≡ darts c.args.classed.now.mesh.now =
    omega (arith, c.loop-d-test.false, c.loop-d.auto.d-end, ap length c.faces.ensures.value) in
    rw (← all) c.loop-d.invariant
