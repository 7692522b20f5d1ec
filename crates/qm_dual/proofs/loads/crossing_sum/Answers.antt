use Rattle.std.proofs.Common.{rules, ◌*◌, ◌^◌, ◌≤◌, unsigned_abs, arith}
use Rattle.{std.proofs.lemmas.Int.ints}
use Rattle.qm_dual.proofs.Gathered.{named_small, apart_sums}
use Rattle.qm_dual.proofs.loads.crossing_sum.Goals as goal

-- The sums of both entries and of the set around both are small.
sums : (c : goal.After-sum_at-2) → (unsigned_abs c.sum_at.result ≤ 2 ^ 30 * 10 ^ 18)
    × (unsigned_abs c.sum_at-2.result ≤ 2 ^ 30 * 10 ^ 18) × (unsigned_abs c.sum_at-both.result ≤ 2 ^ 30 * 10 ^ 18)
sums c = search (rules, named_small)

pub overflow_add-result : goal.overflow_add-result
overflow_add-result c = omega (arith, ints, sums c)

pub overflow_add-result-2 : goal.overflow_add-result-2
overflow_add-result-2 c = omega (arith, ints, sums c)

pub overflow_sub-result : goal.overflow_sub-result
overflow_sub-result c = omega (arith, ints, sums c)

pub returns-clause-value : goal.returns-clause-value
returns-clause-value c =
    let apart = apart_sums c.requires.tables.summed c.requires.entries.0 c.requires.entries.1 c.meeting.ensures.low
    c.meeting.ensures.least in
    omega (arith, ints, sums c)

pub returns-clause-small : goal.returns-clause-small
returns-clause-small c = omega (arith, ints, sums c)
