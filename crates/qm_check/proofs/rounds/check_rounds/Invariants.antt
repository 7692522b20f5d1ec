use Rattle.std.proofs.Common.{◌≡◌, ◌++◌, length}
use Rattle.{qm_check.specs.Checked.ArePassed, std.specs.Vec.Iter.into_iter_items, std.specs.Vec.Iter.into_iter_len}
use Rattle.{def_flow.specs.Network.network, def_remesh.specs.Keeping.IsNetFor, def_remesh.specs.Tasks.Wish}

abbrev pub invariant-rounds : Rattle.qm_check.proofs.rounds.check_rounds.Given.invariant-rounds
invariant-rounds l = record {
  left : l.passed.items ++ into_iter_items l.round-iterator ≡ l.fn.run.rounds.items;
  many : into_iter_len l.round-iterator ≡ length (into_iter_items l.round-iterator);
  passed : (wish : Wish) → IsNetFor wish l.cut.layout l.terms.settings (network l.fn.net)
      → ArePassed wish l.cut.layout l.terms.settings (network l.fn.net) l.passed.items (network l.net);
}
