use Rattle.std.proofs.Common.{rules, ◌≡◌, ℕ, not, true, sym, length, slice_index, arith}
use Rattle.qm_dual.proofs.{check.even_set.Goals.then-size-ne1-via-else-size-ne1+then-size-lt3, Gathered.least_none}
use Rattle.{qm_dual.proofs.check.even_set.Goals.then-size-ne1-via-then-size-ne1, def_matching.specs.Dual.is_odd_size}
use Rattle.{std.proofs.lemmas.Bool.Decides.nat_tests, qm_dual.proofs.Gathered.least_some}
use Rattle.qm_dual.proofs.check.even_set.Goals as goal

pub returns-then-size-ne1-clause-least : goal.returns-then-size-ne1-clause-least
returns-then-size-ne1-clause-least c =
    let size : ℕ = slice_index c.args.sizes.now c.loop-k.k in
    let off : not (is_odd_size size) ≡ true = grind (arith, nat_tests, c.then-size-ne1.branch) in
    sym (least_some (λ k. not (is_odd_size (slice_index c.args.sizes.now k))) (length c.args.sizes.now) c.loop-k.k
    c.loop-k-test.true c.loop-k.invariant off)

pub returns-clause-least : goal.returns-clause-least
returns-clause-least c = search (rules, least_none)
