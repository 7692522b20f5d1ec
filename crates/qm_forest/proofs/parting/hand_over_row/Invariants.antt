use Rattle.std.proofs.Common.{◌≡◌, get_or}
use Rattle.{def_forest.specs.Forests.walk, qm_forest.specs.Parts.HasHandedRow}

abbrev pub invariant-loop : Rattle.qm_forest.proofs.parting.hand_over_row.Given.invariant-loop
invariant-loop l = record {
  here : l.x ≡ walk (λ k. get_or l.fn.after k 0) l.fn.row.front l.counter;
  done : HasHandedRow l.fn.handles l.handles l.fn.lists l.fn.after l.fn.row.front l.counter l.set;
}
