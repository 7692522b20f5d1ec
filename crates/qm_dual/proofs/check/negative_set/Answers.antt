use Rattle.std.proofs.Common.{◌≡◌, pos, true, sym, length, slice_index_or, int_lt, FitsSigned, arith, rules}
use Rattle.{std.proofs.lemmas.Int.ints, qm_dual.proofs.Gathered.least_none, qm_dual.proofs.Gathered.least_some}
use mir.Syntax.{w64}
use Rattle.qm_dual.proofs.check.negative_set.Goals as goal

pub returns-then-number-lt0 : goal.returns-then-number-lt0
returns-then-number-lt0 c =
    let fits : FitsSigned w64 (slice_index_or c.args.z.now c.loop-k.k (pos 0)) = search rules in
    let on : int_lt (slice_index_or c.args.z.now c.loop-k.k (pos 0)) (pos 0) ≡ true = grind (arith, ints) in
    sym (least_some (λ k. int_lt (slice_index_or c.args.z.now k (pos 0)) (pos 0)) (length c.args.z.now) c.loop-k.k
    c.loop-k-test.true c.loop-k.invariant on)

pub returns : goal.returns
returns c = search (rules, least_none)
