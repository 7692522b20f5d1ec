use Rattle.std.proofs.Common.{rules, ◌≡◌, ◌<◌, is_some, length, ap, ◌∙◌, sym, arith}
use Rattle.def_mesh.specs.{Darts.darts, Components.is_start, Components.seeds, declared.Kind.TheVariants.Regular}
use Rattle.qm_sing.proofs.{Floods.filter_on, Floods.filter_off, origins.starts.Goals.then-may_start+in_ok-push}
use Rattle.qm_sing.proofs.{Numberings.kind_read, Numberings.mark_test, Numberings.start_is}
use Rattle.qm_sing.proofs.origins.starts.Goals.{else-may_start}

pub loop-d-preserved : Rattle.qm_sing.proofs.origins.starts.Goals.loop-d-preserved
loop-d-preserved c = let s = c.args.classed.now in
    let ld : c.loop-d.d < darts s.mesh.now = omega (arith, c.loop-d-test.true, ap length c.faces.ensures.value) in
    let kind = kind_read _ _ c.from-v.result Regular c.from-v.ensures.vertex s.classes in
    let mark = mark_test c.faces.ensures.mesh.manifold c.args.marks.now c.from-v.result c.requires in
    let twin = c.is_some.ensures ∙ ap is_some c.twin.ensures.value in
    let t : c.may_start.result ≡ is_start s.mesh.now (seeds s.mesh.now) c.loop-d.d = search (rules, start_is) in
    let starts = is_start s.mesh.now (seeds s.mesh.now) in
    elim c.if-may_start.branch [
      | then-may_start+in_ok-push w ↦ search (rules, filter_on)
      | else-may_start w ↦ search (rules, filter_off)
    ]
