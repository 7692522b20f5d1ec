use Rattle.std.proofs.Common.{rules, ◌≡◌, ◌+◌, not, true, sym, ◌∙◌, ap, arith, slice_index}
use Rattle.{qm_dual.proofs.Gathered.least_none, qm_dual.proofs.Gathered.least_some, def_matching.specs.Dual.is_up}
use Rattle.qm_dual.proofs.check.place_fault_of.Goals as goal

pub returns-then-not-may_stand : goal.returns-then-not-may_stand
returns-then-not-may_stand c =
    let it = c.args.places.now in
    let off : not (is_up it.n it.sets c.loop-i.i (slice_index it.up.now c.loop-i.i)) ≡ true =
    ap not (sym c.may_stand.ensures ∙ c.if-not-may_stand.true) in
    sym (least_some (λ i. not (is_up it.n it.sets i (slice_index it.up.now i))) (it.n + it.sets) c.loop-i.i
    (omega arith) c.loop-i.invariant off)

pub returns : goal.returns
returns c = search (rules, least_none)
