use Rattle.std.proofs.Common.{length, ap, ◌∙◌, arith}
use Rattle.def_cut.specs.{Traced.last_state}
use Rattle.qm_trace.proofs.{Ends.starts_few, Ends.cut_is, Ends.have_stopped, Fewer.reached_now, Fewer.riders_long}
use Rattle.{site_laws.proofs.Laws.graph_law, motion_laws.proofs.Order.one_end}
use Rattle.qm_trace.proofs.motion.Motion.into_graph.Goals as goal

pub tell_riders-requires : goal.tell_riders-requires
tell_riders-requires c =
    let now = reached_now c.faces-known.ensures.mesh.manifold c.self.view_is c.requires.motion in
    let starts = rw (← c.self.view_is) at c.requires.motion.started in
    let over = rw (← c.self.view_is) at c.requires.over in
    let long = ap length (c.deref.ensures.value ∙ starts) in
    record {
      few = omega (arith, long, starts_few _ now.mesh);
      each = omega (arith, ap length c.deref-2.ensures.value, riders_long now, long);
      stopped = have_stopped _ (grind (arith, one_end now.at over, graph_law c.args.mesh.now now.mesh));
      empty = c.self.invariant.untold_yet;
      room = omega (arith, c.self.invariant.has_room, ap length c.deref.ensures.value);
    }

pub close-covered-requires : goal.close-covered-requires
close-covered-requires c =
    let now = reached_now c.faces-known.ensures.mesh.manifold c.self.view_is c.requires.motion in
    now.shown.covered_long

pub returns : goal.returns
returns c =
    let now = reached_now c.faces-known.ensures.mesh.manifold c.self.view_is c.requires.motion in
    let over = rw (← c.self.view_is) at c.requires.over in
    let covered = c.close-covered.ensures ∙ cut_is _ (last_state c.args.mesh.now) _ (one_end now.at over).1 in
    record { graph = grind (arith, one_end now.at over); cut = rw covered (graph_law c.args.mesh.now now.mesh).1 }
