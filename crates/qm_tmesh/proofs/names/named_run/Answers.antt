use Rattle.std.proofs.Common.{rules, length, ap, sym, ◌∙◌}
use Rattle.{def_cut.specs.Grids.least_of, qm_tmesh.proofs.names.named_run.Goals.then-not-cut-s-via-then-not-cut-s}
use Rattle.qm_tmesh.proofs.names.named_run.Goals.{then-not-cut-s-via-else-not-cut-s+then-not-nodes-from}
use Rattle.qm_tmesh.proofs.Walks.{node_from, run_named, run_unnamed}
use Rattle.qm_tmesh.proofs.names.named_run.Goals as goal

pub returns-then-not-cut-s : goal.returns-then-not-cut-s
returns-then-not-cut-s c = λ n named. elim c.then-not-cut-s.branch [
  | then-not-cut-s-via-then-not-cut-s w ↦ cc (named.run.on 0 named.run.some)
  | then-not-cut-s-via-else-not-cut-s+then-not-nodes-from w ↦ cc (node_from c.requires.marked c.args.s c.requires.dart)
]

pub invariant_of-start : goal.invariant_of-start
invariant_of-start c = search (rules, node_from)

pub returns-then-is_least : goal.returns-then-is_least
returns-then-is_least c =
    let name = c.least-name.ensures ∙ ap least_of c.deref.ensures.value in (
      length c.in_ok-darts.darts.items,
      run_named c.requires.marked c.in_ok-darts.ensures.run c.in_ok-darts.ensures.darts
          (rw (c.deref-2.ensures.value, name) at c.if-is_least.ensures),
      sym (name ∙ ap least_of c.in_ok-darts.ensures.darts),
    )

pub returns : goal.returns
returns c =
    let name = c.least-name.ensures ∙ ap least_of c.deref.ensures.value in
    run_unnamed c.requires.marked c.in_ok-darts.ensures.run c.in_ok-darts.ensures.darts
    (rw (c.deref-2.ensures.value, name) at c.if-is_least.ensures)
