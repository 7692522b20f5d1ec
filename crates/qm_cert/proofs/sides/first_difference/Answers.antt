use Rattle.std.proofs.Common.{rules, ◌≡◌, ◌==◌, ℕ, List, not, true, sym, ap, length, slice_index, ne_eqb}
use Rattle.qm_dual.proofs.Gathered.{least_none, least_some}
use Rattle.qm_cert.proofs.sides.first_difference.Goals as goal

pub returns-then-sum-sides-clause-least : goal.returns-then-sum-sides-clause-least
returns-then-sum-sides-clause-least c =
    let plus : List ℕ = c.args.sides.now.plus.now in
    let minus : List ℕ = c.args.sides.now.minus.now in
    let on : not (slice_index plus c.loop-v.v == slice_index minus c.loop-v.v) ≡ true =
    ap not (ne_eqb _ _ c.if-sum-sides.true) in
    sym (least_some (λ v. not (slice_index plus v == slice_index minus v)) (length plus) c.loop-v.v c.loop-v-test.true
    c.loop-v.invariant on)

pub returns-clause-least : goal.returns-clause-least
returns-clause-least c = search (rules, least_none)
