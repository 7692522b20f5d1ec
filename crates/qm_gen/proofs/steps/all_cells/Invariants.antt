use Rattle.std.specs.List.{flat_map, range_with_len}
use Rattle.{std.proofs.Common.◌≡◌, def_gen.specs.Steps.row_cells}

abbrev pub invariant-loop-row : Rattle.qm_gen.proofs.steps.all_cells.Given.invariant-loop-row
invariant-loop-row l = l.cells.items ≡ flat_map (row_cells l.n) (range_with_len 0 l.row)
