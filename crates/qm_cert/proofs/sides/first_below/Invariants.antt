use Rattle.std.proofs.Common.{◌≡◌, ℕ, ◌<◌, false, slice_index, nat_lt}
use Rattle.def_flow.specs.Network.{arc_at}

abbrev pub invariant-loop-k : Rattle.qm_cert.proofs.sides.first_below.Given.invariant-loop-k
invariant-loop-k l = (j : ℕ) → j < l.k
    → nat_lt (slice_index l.lengths.x.now j) (arc_at l.lengths.net.whole.now.arcs.items j).floor ≡ false
