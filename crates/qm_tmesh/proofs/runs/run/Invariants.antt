use Rattle.std.proofs.Common.{◌≡◌, ℕ, ◌<◌, false}
use Rattle.{def_mesh.specs.Darts.darts, def_mesh.specs.HalfEdges.half_edges, def_cut.specs.Steps.easts}
use Rattle.{layout_laws.specs.Named.run_list, def_layout.specs.Arcs.end_vertex, def_layout.specs.Nodes.is_node}

-- The walk has met no node, and has listed the darts before.
abbrev pub invariant-steps : Rattle.qm_tmesh.proofs.runs.run.Given.invariant-steps
invariant-steps l = record {
  at : l.d ≡ easts (half_edges l.start.mesh.now) l.start.dart l.counter;
  low : l.d < darts l.start.mesh.now;
  inner : (k : ℕ) → k < l.counter → is_node l.start.mesh.now l.start.cut.now
      (end_vertex (half_edges l.start.mesh.now) (easts (half_edges l.start.mesh.now) l.start.dart k)) ≡ false;
  listed : l.darts.items ≡ run_list (half_edges l.start.mesh.now) l.start.dart l.counter;
}
