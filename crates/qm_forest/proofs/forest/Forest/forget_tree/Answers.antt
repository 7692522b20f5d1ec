use Rattle.qm_forest.proofs.Fresh.{tied_forgotten, seen_forgotten}
use Rattle.{std.proofs.Common.ap, std.proofs.Common.length, std.proofs.Common.arith}
use Rattle.qm_forest.proofs.forest.Forest.forget_tree.Goals as goal

pub invariant_of-self : goal.invariant_of-self
invariant_of-self c = tied_forgotten c.self.invariant (rw (← c.self.view_is) at c.requires) _ c.clear.ensures.size
    c.clear.ensures.old (rw c.deref.ensures.value at c.clear.ensures.gone) (ap length c.clear-2.ensures.items)
    (omega (arith, c.clear-2.ensures.capacity))

pub returns-clause-seen : goal.returns-clause-seen
returns-clause-seen c = rw (← c.self.view_is)
    (seen_forgotten c.self.invariant (rw (← c.self.view_is) at c.requires) c.clear-2.new.self.items)
