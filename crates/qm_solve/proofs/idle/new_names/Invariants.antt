use Rattle.std.proofs.Common.{◌≡◌, ◌≤◌, length}
use Rattle.qm_solve.proofs.idle.new_names.Given as goal

-- A name for each set; no name is greater than the number of sets so far.
abbrev pub invariant-loop-k : goal.invariant-loop-k
invariant-loop-k l = (length l.names.items ≡ length l.sets.z.now) × (l.name ≤ l.k)

abbrev pub invariant-loop-k-2 : goal.invariant-loop-k-2
invariant-loop-k-2 l = length l.names.items ≡ length l.sets.z.now
