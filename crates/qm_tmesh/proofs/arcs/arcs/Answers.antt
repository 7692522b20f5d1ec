use Rattle.std.proofs.Common.{rules}
use Rattle.std.proofs.{Common.[], Common.◌∷◌, Common.map, Common.ap, Common.◌∙◌, lemmas.List.map-append}
use Rattle.def_layout.specs.Arcs.{path}
use Rattle.qm_tmesh.proofs.{ArcTables.table_skip, ArcTables.arcs_more}
use Rattle.qm_tmesh.proofs.{arcs.arcs.Goals.then-start-cut+in_ok-arc+in_ok-push, arcs.arcs.Goals.else-start-cut}
use Rattle.qm_tmesh.proofs.arcs.arcs.Goals as goal

pub invariant_of-begin : goal.invariant_of-begin
invariant_of-begin c =
    let run = (c.requires.starts.right c.loop-start.start-index c.loop-start-test.true c.if-start-cut.true).1.run in
    record { low = run.low; on = run.on 0 run.some; begins = run.begins }

pub loop-start-preserved : goal.loop-start-preserved
loop-start-preserved c = elim c.if-start-cut.branch [
  | then-start-cut+in_ok-arc+in_ok-push w ↦
      let named = c.requires.starts.right _ c.loop-start-test.true w.if-start-cut.true in
      let list = ap (map path) w.in_ok-push.ensures.items
      ∙ map-append path c.loop-start.arcs.items (w.in_ok-arc.arc ∷ []) in
      rw (w.arcs-is, list) (arcs_more c.requires.marked c.loop-start.invariant named.1 named.2 w.in_ok-arc.ensures)
  | else-start-cut w ↦ search (rules, table_skip)
]
