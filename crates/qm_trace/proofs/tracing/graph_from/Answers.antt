use Rattle.std.proofs.Common.{rules, length, ap, ◌∙◌, arith}
use Rattle.feature_laws.proofs.Conforming.{marked_law}
use Rattle.qm_trace.proofs.Ends.{cut_is, have_stopped, last_long, marked_few}
use Rattle.{def_cut.specs.Motion.ridden, def_feature.specs.Marked.marked_last}
use Rattle.qm_trace.proofs.tracing.graph_from.Goals as goal

pub tell_riders-requires-clause-few : goal.tell_riders-requires-clause-few
tell_riders-requires-clause-few c =
    omega (arith, ap length c.requires.starts, marked_few c.args.mesh.now c.args.marks.now)

pub tell_riders-requires-clause-each : goal.tell_riders-requires-clause-each
tell_riders-requires-clause-each c = search (rules, last_long)

pub tell_riders-requires-clause-stopped : goal.tell_riders-requires-clause-stopped
tell_riders-requires-clause-stopped c =
    have_stopped c.deref.result.now (ap ridden (c.deref.ensures.value ∙ c.in_ok-end.ensures.riders_are)
    ∙ (marked_law c.args.mesh.now c.args.marks.now c.faces-known.ensures.mesh.manifold c.requires.marks).rests)

pub returns : goal.returns
returns c =
    let covered = c.close-covered.ensures ∙ cut_is c.args.mesh.now (marked_last c.args.mesh.now _)
    c.in_ok-end.end.covered.items c.in_ok-end.ensures.covered_is in
    record {
      graph = search rules;
      cut = rw covered (marked_law _ _ c.faces-known.ensures.mesh.manifold c.requires.marks).full;
    }
