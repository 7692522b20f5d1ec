use Rattle.std.proofs.Common.{◌≡◌, ◌+◌, ◌*◌, length}
use Rattle.{std.specs.List.All, qm_warmstart.specs.Tables.LeadsWithin}

abbrev pub invariant-loop-chain : Rattle.qm_warmstart.proofs.cover.ways_of.Given.invariant-loop-chain
invariant-loop-chain l = (length l.all.items ≡ 2 * l.chain-index)
    × All (LeadsWithin (2 * l.net.whole.now.nodes + 1)) l.all.items
