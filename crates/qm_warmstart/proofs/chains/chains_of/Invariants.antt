use Rattle.std.proofs.Common.{◌≡◌, ◌<◌, ◌≤◌, length, slice_index_or, true, false}
use Rattle.qm_warmstart.specs.Tables.{AreChains}

abbrev pub invariant-loop-arc : Rattle.qm_warmstart.proofs.chains.chains_of.Given.invariant-loop-arc
invariant-loop-arc l = (length l.taken.items ≡ length l.net.whole.now.arcs.items)
    × (length l.all.items ≤ l.arc)
    × AreChains (length l.net.whole.now.arcs.items) l.all.items
    × ((0 < l.arc → 0 < length l.all.items) × (l.arc ≡ 0 → slice_index_or l.taken.items 0 true ≡ false))
