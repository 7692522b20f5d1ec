use Rattle.{def_matching.specs.Dual.dual, qm_solve.proofs.Rounds.named_sets}
use Rattle.qm_solve.proofs.idle.kept_sets.Goals as goal

pub invariant_of-sets-clause-low : goal.invariant_of-sets-clause-low
invariant_of-sets-clause-low c = rw (c.deref.ensures.value, c.deref-2.ensures.value)
    (named_sets c.args.g.now.graph (dual c.args.d.now) c.args.sum c.requires.yes)

pub invariant_of-sets-clause-small : goal.invariant_of-sets-clause-small
invariant_of-sets-clause-small c = rw c.deref.ensures.value c.requires.small.small_z
