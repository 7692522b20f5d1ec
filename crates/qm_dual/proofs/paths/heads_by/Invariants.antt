use Rattle.std.proofs.Common.{◌≡◌, ℕ, ◌<◌, ◌≤◌, length, slice_index}
use Rattle.qm_dual.specs.Nest.{IsHead}
use Rattle.qm_dual.proofs.paths.heads_by.Given as goal

abbrev pub invariant-loop-k : goal.invariant-loop-k
invariant-loop-k l =
    let d = l.picking.d in
    record {
      low : l.k ≤ length d.whole.now.z.items;
      count : length l.heads.items ≡ length d.whole.now.z.items;
      each : (j : ℕ) → l.k ≤ j → j < length d.whole.now.z.items
          → IsHead d.n d.whole.now.up.items (slice_index l.picking.numbers.now) l.heads.items j;
    }

abbrev pub decreases-loop-k : goal.decreases-loop-k
decreases-loop-k l = l.k
