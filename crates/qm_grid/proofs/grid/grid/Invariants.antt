use Rattle.std.proofs.Common.{◌≡◌, ℕ, ◌<◌, true, false}
use Rattle.def_mesh.specs.{Darts.darts, Darts.next_of, Darts.prev_of, HalfEdges.half_edges}
use Rattle.def_cut.specs.{FullCut.is_on, Steps.norths}
use Rattle.{cut_laws.specs.Grown.IsRow, qm_grid.specs.Cells.grid_list}

-- the next row is row h, none before has a cut edge to the north, and all of them are listed, whatever their width
abbrev pub invariant-loop-h : Rattle.qm_grid.proofs.grid.grid.Given.invariant-loop-h
invariant-loop-h l = record {
  at : l.start ≡ norths (half_edges l.cut.faces) l.corner l.h;
  low : l.start < darts l.cut.faces;
  west : is_on l.cut.marks (prev_of l.start) ≡ true;
  inside : (k : ℕ) → k < l.h
      → is_on l.cut.marks (next_of (next_of (norths (half_edges l.cut.faces) l.corner k))) ≡ false;
  listed : (w : ℕ) → IsRow (half_edges l.cut.faces) (is_on l.cut.marks) l.corner w
      → l.cells.items ≡ grid_list (half_edges l.cut.faces) l.corner w l.h;
}
