use Rattle.std.proofs.Common.{◌≡◌, ◌++◌, filter, map}
use Rattle.std.specs.{Prelude.nat_lt, List.range_with_len}
use Rattle.def_gen.specs.Steps.{cell, column_height}

abbrev pub invariant-loop-column : Rattle.qm_gen.proofs.steps.push_cells.Given.invariant-loop-column
invariant-loop-column l = l.cells.items ≡ l.fn.cells.items ++ map (λ column. cell l.n column l.row)
    (filter (λ column. nat_lt l.row (column_height l.n column)) (range_with_len 0 l.column))
