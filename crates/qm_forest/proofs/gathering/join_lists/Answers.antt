use Rattle.std.proofs.Common.{rules, ◌≡◌, suc, ◌+◌, ◌-◌, add-one, get_or, refl, ap, arith}
use Rattle.{def_forest.specs.Forests.walk, def_forest.specs.Forests.ring_sum}
use Rattle.qm_forest.proofs.JoinedLists.{ring_sum_below}
use Rattle.qm_forest.proofs.RenamedRows.{entry_low, entry_read, written_more}
use Rattle.qm_forest.proofs.gathering.join_lists.Goals.{After-index, After-index-end, After-index-in-loop}
use Rattle.qm_forest.proofs.gathering.join_lists.Goals as goal

-- What is read: the end of the list at hand, and the beginning and the length of the next one.
end_is : (c : After-index-end) → c.index-end.result.now
    ≡ get_or c.args.lists.now.last.items (walk (λ k. get_or c.args.after.now k 0) c.args.front c.loop.counter) 0
end_is c = entry_read _ c.requires.lists.row (omega (arith, c.loop-test.true)) c.loop.invariant.here
    (ap (λ o. o.items) c.loop.invariant.last) c.requires.lists.last c.index-end.ensures

first_is : (c : After-index) → c.index.result.now
    ≡ get_or c.args.lists.now.first.items (walk (λ k. get_or c.args.after.now k 0) c.args.front (suc c.loop.counter)) 0
first_is c = entry_read (suc c.loop.counter) c.requires.lists.row (omega (arith, c.loop-test.true))
    (ap (λ x. get_or c.args.after.now x 0) c.loop.invariant.here) (ap (λ o. o.items) c.loop.invariant.first)
    c.requires.lists.first c.index.ensures

more_is : (c : After-index-in-loop) → c.index-in-loop.result.now
    ≡ get_or c.args.lists.now.rank.items (walk (λ k. get_or c.args.after.now k 0) c.args.front (suc c.loop.counter)) 0
more_is c = entry_read (suc c.loop.counter) c.requires.lists.row (omega (arith, c.loop-test.true))
    (ap (λ x. get_or c.args.after.now x 0) c.loop.invariant.here) (ap (λ o. o.items) c.loop.invariant.rank)
    c.requires.lists.rank c.index-in-loop.ensures

pub index-end-requires : goal.index-end-requires
index-end-requires c =
    let low = entry_low c.loop.counter c.requires.lists.row (omega (arith, c.loop-test.true)) c.loop.invariant.here
    (ap (λ o. o.items) c.loop.invariant.last) c.requires.lists.last in
    omega arith

pub index-requires : goal.index-requires
index-requires c =
    let low = entry_low (suc c.loop.counter) c.requires.lists.row (omega (arith, c.loop-test.true))
    (ap (λ x. get_or c.args.after.now x 0) c.loop.invariant.here) (ap (λ o. o.items) c.loop.invariant.first)
    c.requires.lists.first in
    omega arith

pub index_mut-requires : goal.index_mut-requires
index_mut-requires c =
    let ends = end_is (goal.at.index_mut-requires c).After-index-end in
    omega (arith, c.requires.lists.ends c.loop.counter (omega (arith, c.loop-test.true)))

pub index-requires-in-loop : goal.index-requires-in-loop
index-requires-in-loop c =
    let low = entry_low (suc c.loop.counter) c.requires.lists.row (omega (arith, c.loop-test.true))
    (ap (λ x. get_or c.args.after.now x 0) c.loop.invariant.here) (ap (λ o. o.items) c.loop.invariant.rank)
    c.requires.lists.rank in
    omega arith

pub overflow_add-total : goal.overflow_add-total
overflow_add-total c =
    let more = more_is (goal.at.overflow_add-total c).After-index-in-loop in
    let below = ring_sum_below (λ k. get_or c.args.after.now k 0) (λ k. get_or c.args.lists.now.rank.items k 0)
    c.args.front (suc (suc c.loop.counter)) c.args.many (omega (arith, c.loop-test.true)) in
    omega arith

pub loop-preserved : goal.loop-preserved
loop-preserved c =
    let at = goal.at.loop-preserved c in
    let total : c.loop.total + c.index-in-loop.result.now ≡ ring_sum (λ k. get_or c.args.after.now k 0)
    (λ k. get_or c.args.lists.now.rank.items k 0) c.args.front (suc (c.loop.counter + 1)) =
    rw (add-one _) (omega (arith, more_is at.After-index-in-loop)) in
    let next = written_more _ _ _ _ _ (omega (arith, end_is at.After-index-end)) c.loop.invariant.following
    (end_is at.After-index-end) (first_is at.After-index) (add-one _) in
    search rules

pub returns : goal.returns
returns c =
    let all : c.loop.counter ≡ c.args.many - 1 = omega (arith, c.loop-test.false, c.loop.auto.counter-end) in
    let front_is = entry_read 0 c.requires.lists.row c.requires.lists.row.some refl
    (ap (λ o. o.items) c.loop.invariant.first) c.requires.lists.first c.index-2.ensures in
    let last_is = entry_read (c.args.many - 1) c.requires.lists.row (omega arith) (rw (← all)
    c.loop.invariant.here) (ap (λ o. o.items) c.loop.invariant.last) c.requires.lists.last c.index-3.ensures in
    record {
      following = rw (← all) c.loop.invariant.following;
      size = c.loop.invariant.size;
      first = rw (c.loop.invariant.first, front_is);
      last = rw (c.loop.invariant.last, last_is);
      rank = search rules;
      leader = c.loop.invariant.leader;
    }
