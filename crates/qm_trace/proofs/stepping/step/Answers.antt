use Rattle.std.proofs.Common.{rules}
use Rattle.qm_trace.proofs.Counting.{are_darts, can_ride, instant, same_darts, stands_next}
use Rattle.qm_trace.proofs.stepping.step.Goals as goal

pub invariant_of-trail : goal.invariant_of-trail
invariant_of-trail c = search (rules, are_darts)

pub ride_all-requires : goal.ride_all-requires
ride_all-requires c =
    can_ride c.faces-known.ensures.mesh.manifold c.requires.at.3 c.requires.queue c.requires.ridden c.requires.at.2

pub returns-clause-at : goal.returns-clause-at
returns-clause-at c marks k at =
    let m = c.faces-known.ensures.mesh.manifold in
    let riders = c.ride_all.ensures marks k (instant m at c.requires.queue c.requires.ridden _ c.set.ensures.each) in
    search (
      rules,
      stands_next m at c.requires.queue c.requires.ridden,
      same_darts _ _ _ c.requires.queue c.requires.ridden,
    )
