use Rattle.std.proofs.Common.{◌≡◌, ◌+◌, ◌*◌, length}
use Rattle.{std.specs.List.All, qm_fraction.specs.Exits.IsExitWithin}

abbrev pub invariant-loop-d : Rattle.qm_fraction.proofs.exits.exits_of.Given.invariant-loop-d
invariant-loop-d l = (length l.free.items ≡ l.g.graph.n + 1) × (length l.all.items ≡ 2 * length l.g.graph.edges) × All
    (IsExitWithin l.g.graph.n) l.all.items
