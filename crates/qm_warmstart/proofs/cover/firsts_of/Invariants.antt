use Rattle.std.proofs.Common.{◌≡◌, ◌≤◌, ◌+◌, ◌*◌, length}
use Rattle.std.specs.List.{All}
use Rattle.qm_warmstart.proofs.cover.firsts_of.Given as goal

abbrev pub invariant-loop-way : goal.invariant-loop-way
invariant-loop-way l = length l.counts.items ≡ l.ways.nodes

abbrev pub invariant-loop-count : goal.invariant-loop-count
invariant-loop-count l = (length l.firsts.items ≡ l.count-index + 1)
    × All (λ first. first ≤ 2 * length l.ways.all.items) l.firsts.items
