use Rattle.std.proofs.Common.{rules, ◌≡◌, ◌<◌, ℕ, ap, get_or, length, arith}
use Rattle.{std.proofs.lemmas.List.get_or_read, def_forest.specs.Forests.walk}
use Rattle.qm_forest.proofs.Gatherings.{Taken, lists_of_row, joinable, set_low, big_low, handle_top, tied_after}
use Rattle.qm_forest.proofs.Gatherings.{seen_after, root_after}
use Rattle.qm_forest.proofs.forest.Forest.gather.Goals.{After-index-leader, After-rename_row-big, After-take_set-set}
use Rattle.qm_forest.proofs.forest.Forest.gather.Goals as goal

taken : (c : After-take_set-set) → Taken c.self.inside c.take_set-set.new.pool c.args.front c.args.many
    c.take_set-set.result
taken c = search rules

on : (c : After-rename_row-big) → (k : ℕ) × (k < c.args.many)
    × (walk (λ i. get_or c.self.inside.rings.after.items i 0) c.args.front k ≡ c.rename_row-big.result)
on c = rw c.deref.ensures.value at c.rename_row-big.ensures.on

-- The handle that all vertices get.
leader_is : (c : After-index-leader) → c.rename_row-big.result < length c.self.inside.lists.leader.items
    → c.index-leader.result.now ≡ get_or c.self.inside.lists.leader.items c.rename_row-big.result 0
leader_is c low = get_or_read c.self.inside.lists.leader.items c.rename_row-big.result _ low c.index-leader.ensures 0

pub rename_row-big-requires : goal.rename_row-big-requires
rename_row-big-requires c = rw c.deref.ensures.value
    (lists_of_row (taken (goal.at.rename_row-big-requires c).After-take_set-set))

pub index_mut-requires : goal.index_mut-requires
index_mut-requires c =
    let at = goal.at.index_mut-requires c in
    let it = taken at.After-take_set-set in
    let leader = leader_is at.After-index-leader (big_low it (on at.After-rename_row-big)) in
    let top = ap (λ o. length o.items) c.rename_row-big.ensures.renamed.top in
    omega (arith, handle_top it (on at.After-rename_row-big), c.rename_row-big.new.handles.top.ok.0)

pub join_lists-requires-clause-lists : goal.join_lists-requires-clause-lists
join_lists-requires-clause-lists c = rw c.deref-2.ensures.value
    (joinable (taken (goal.at.join_lists-requires-clause-lists c).After-take_set-set))

pub join_lists-requires-clause-set : goal.join_lists-requires-clause-set
join_lists-requires-clause-set c = rw (c.deref-2.ensures.value, c.self.invariant.sizes.after)
    (set_low (taken (goal.at.join_lists-requires-clause-set c).After-take_set-set))

pub index_mut-requires-2 : goal.index_mut-requires-2
index_mut-requires-2 c =
    let low = set_low (taken (goal.at.index_mut-requires-2 c).After-take_set-set) in
    omega (arith, ap (λ o. length o.items) c.join_lists.ensures.leader)

pub enclose-requires : goal.enclose-requires
enclose-requires c = let it = taken (goal.at.enclose-requires c).After-take_set-set in assumption (set_low it)

pub invariant_of-self : goal.invariant_of-self
invariant_of-self c =
    let at = goal.at.invariant_of-self c in
    let it = taken at.After-take_set-set in
    let big = on at.After-rename_row-big in
    tied_after it big (rw c.deref.ensures.value at c.rename_row-big.ensures.renamed) (rw c.deref-2.ensures.value
    at c.join_lists.ensures) c.enclose.ensures (search rules) (leader_is at.After-index-leader (big_low it big))

pub returns-clause-gathered : goal.returns-clause-gathered
returns-clause-gathered c =
    let at = goal.at.returns-clause-gathered c in
    let it = taken at.After-take_set-set in
    let big = on at.After-rename_row-big in
    rw (← c.self.view_is) (seen_after it big (rw c.deref.ensures.value at c.rename_row-big.ensures.renamed) (rw
    c.deref-2.ensures.value at c.join_lists.ensures) c.enclose.ensures (rw c.deref-3.ensures.value
    at c.enclosed_root-self-inside.ensures) (leader_is at.After-index-leader (big_low it big)))

pub returns-clause-root : goal.returns-clause-root
returns-clause-root c =
    let at = goal.at.returns-clause-root c in
    let it = taken at.After-take_set-set in
    let big = on at.After-rename_row-big in
    rw (← c.self.view_is) (root_after it big (rw c.deref.ensures.value at c.rename_row-big.ensures.renamed) (rw
    c.deref-2.ensures.value at c.join_lists.ensures) c.enclose.ensures (rw c.deref-3.ensures.value
    at c.enclosed_root-self-inside.ensures) (leader_is at.After-index-leader (big_low it big)))
