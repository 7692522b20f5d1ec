use Rattle.std.proofs.Common.{ℕ, ◌<◌, ◌≤◌, slice_index}
use Rattle.def_flow.specs.Network.{arc_at}

abbrev pub invariant-loop-k : Rattle.qm_net.proofs.balance.are_high.Given.invariant-loop-k
invariant-loop-k l = (j : ℕ) → j < l.k
    → (arc_at l.lengths.net.whole.now.arcs.items j).floor ≤ slice_index l.lengths.x.now j
