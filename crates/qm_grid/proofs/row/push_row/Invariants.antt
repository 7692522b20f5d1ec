use Rattle.std.proofs.Common.{◌≡◌, ℕ, ◌<◌, ◌++◌, false}
use Rattle.def_mesh.specs.{Darts.darts, Darts.next_of, HalfEdges.half_edges}
use Rattle.{def_cut.specs.FullCut.is_on, def_cut.specs.Steps.easts, qm_grid.specs.Cells.row_list}

-- the walk stands at cell i, has not met a cut edge, and has listed the cells before
abbrev pub invariant-loop-i : Rattle.qm_grid.proofs.row.push_row.Given.invariant-loop-i
invariant-loop-i l = record {
  at : l.d ≡ easts (half_edges l.cut.faces) l.start l.i;
  low : l.d < darts l.cut.faces;
  inside : (k : ℕ) → k < l.i → is_on l.cut.marks (next_of (easts (half_edges l.cut.faces) l.start k)) ≡ false;
  listed : l.cells.items ≡ l.fn.cells.items ++ row_list (half_edges l.cut.faces) l.start l.i;
}
