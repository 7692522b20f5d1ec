use Rattle.std.proofs.Common.{◌≡◌, ◌<◌, ℕ, [], length, get_or}
use Rattle.def_remesh.specs.{NewPoints.lengths_in, Numberings.tables_of}
use Rattle.{def_layout.specs.Layouts.layout_of, qm_offsets.specs.Fours.AreFourStarts}

abbrev pub invariant-loop-patch : Rattle.qm_offsets.proofs.sides.side_tables.Given.invariant-loop-patch
invariant-loop-patch l = record {
  count : length l.tables.items ≡ l.patch;
  each : (p : ℕ) → p < l.patch
      → AreFourStarts (layout_of l.t) (lengths_in l.lengths) p (get_or (tables_of l.tables.items) p []);
}
