use Rattle.qm_remesh.proofs.Leading.{greatest_high, unscaled}
use Rattle.{qm_metric.proofs.StartLaws.start_at, qm_remesh.specs.Rounds.greatest_floor}
use Rattle.qm_remesh.proofs.fitted.solve_fit.Goals as goal

pub invariant_of-loose : goal.invariant_of-loose
invariant_of-loose c = record { bounds = c.requires.net.2.bounds; loose = c.requires.net.2.untangled }

pub solve_near-requires : goal.solve_near-requires
solve_near-requires c =
    let has = c.requires.net in
    let wishes = unscaled has.0 c.args.cut.now.layout c.in_default.not-Scale has.3 in
    let start = start_at _ _ _ _ _ has.2 (greatest_floor c.args.fit.now)
    (λ k low. (c.requires.floors k low, greatest_high c.requires.fit)) wishes.0 wishes.1 wishes.2 in
    rw (c.in_ok-start-in_default.ensures, c.greatest_floor.ensures) (rw (← c.layout.ensures.layout) at start)
