use Rattle.std.proofs.Common.{◌≡◌, ◌<◌, ◌-◌, length, ap, ◌∙◌, arith}
use Rattle.{def_cut.specs.Steps.easts, def_mesh.specs.Darts.to_of, def_mesh.specs.HalfEdges.half_edges}
use Rattle.qm_tmesh.proofs.{Walks.dart_is, ArcTables.node_place, ArcTables.read_at}
use Rattle.{layout_laws.proofs.Runs.run_low, qm_tmesh.proofs.arcs.arc_from.Goals.After-row_known-2-1}
use Rattle.qm_tmesh.proofs.arcs.arc_from.Goals as goal

-- The last dart of the run, as it was read.
end : (c : After-row_known-2-1) → c.index-end.result.now ≡ easts (half_edges c.args.start.now.mesh.now)
    c.args.start.now.dart (length c.in_ok-darts.darts.items - 1)
end c =
    let made = c.in_ok-darts.ensures in
    let back = length c.in_ok-darts.darts.items - 1 in
    let low : back < length c.in_ok-darts.darts.items = omega (arith, made.run.some) in
    read_at c.in_ok-darts.darts.items back c.index-end.ensures (omega (arith, c.len.ensures, c.in_ok-darts.darts.ok.0))
    low ∙ dart_is c.requires.marked made.run made.darts back low

pub to-requires : goal.to-requires
to-requires c =
    let m = c.requires.marked in
    rw (end (goal.at.to-requires c).After-row_known-2-1) (run_low _ m.laws _ m.full _ m.stand _ _
    c.in_ok-darts.ensures.run _ (omega (arith, c.in_ok-darts.ensures.run.some)))

pub returns : goal.returns
returns c =
    let s = c.args.start.now in
    let placed = c.args.nodes.now.placed in
    let made = c.in_ok-darts.ensures in
    let back = length c.in_ok-darts.darts.items - 1 in
    let at = c.to.ensures.value ∙ ap (to_of s.mesh.now) (end (goal.at.returns c).After-row_known-2-1) in
    let first = node_place c.requires.marked _ _ placed c.from.ensures.vertex c.from.ensures.value s.begins
    c.index-first.ensures in
    let last = node_place c.requires.marked _ _ placed c.to.ensures.vertex at
    (made.run.ends back (omega (arith, made.run.some))) c.index-last.ensures in
    record {
      run = made.run;
      darts = made.darts;
      first_low = first.0;
      last_low = last.0;
      first_at = first.1;
      last_at = λ k z. let same : k ≡ back = omega arith in rw same last.1;
    }
