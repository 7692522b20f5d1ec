use Rattle.std.proofs.Common.{◌≡◌, get_or}
use Rattle.{def_forest.specs.Forests.walk, qm_forest.specs.Gathers.HasRenamedRow}

abbrev pub invariant-loop : Rattle.qm_forest.proofs.gathering.rename_row.Given.invariant-loop
invariant-loop l = record {
  here : l.x ≡ walk (λ k. get_or l.fn.after k 0) l.front l.counter;
  done : HasRenamedRow l.fn.handles l.handles l.fn.lists l.fn.after l.front l.counter l.big;
}
