use Rattle.std.proofs.Common.{◌≡◌, ℕ, ◌+◌, ◌<◌}
use Rattle.def_mesh.specs.{Darts.darts, HalfEdges.half_edges}
use Rattle.{def_cut.specs.Steps.easts, layout_laws.specs.Named.run_list}

-- the walk stands at the last dart that is listed
abbrev pub invariant-steps : Rattle.qm_tmesh.proofs.sides.line.Given.invariant-steps
invariant-steps l = record {
  at : (k : ℕ) → k + 1 ≡ l.counter → l.d ≡ easts (half_edges l.mesh) l.first k;
  low : l.d < darts l.mesh;
  listed : l.line.items ≡ run_list (half_edges l.mesh) l.first l.counter;
}
