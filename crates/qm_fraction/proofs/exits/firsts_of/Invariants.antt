use Rattle.std.proofs.Common.{◌≡◌, ◌+◌, ◌*◌, ◌≤◌, length}
use Rattle.std.specs.List.{All}
use Rattle.qm_fraction.proofs.exits.firsts_of.Given as goal

abbrev pub invariant-loop-d : goal.invariant-loop-d
invariant-loop-d l = length l.counts.items ≡ l.g.graph.n

abbrev pub invariant-loop-count : goal.invariant-loop-count
invariant-loop-count l = (length l.firsts.items ≡ l.count-index + 1) × All (λ first. first ≤ 2 * length l.g.graph.edges)
    l.firsts.items
