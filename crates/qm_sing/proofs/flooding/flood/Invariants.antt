use Rattle.qm_sing.specs.Floods.{IsFlood, to_do}
use Rattle.qm_sing.proofs.flooding.flood.Given as goal

-- The flood so far.
abbrev pub invariant-loop-f : goal.invariant-loop-f
invariant-loop-f l = IsFlood l.mesh l.first l.component l.fn.numbers l.numbers l.waiting.items

abbrev pub decreases-loop-f : goal.decreases-loop-f
decreases-loop-f l = to_do l.numbers l.waiting.items
