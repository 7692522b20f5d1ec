use Rattle.std.proofs.Common.{◌≡◌, ℕ, ◌+◌, ◌^◌, ◌<◌, List, ℤ, pos, ◌+ℤ◌, unsigned_abs, take, get_or, arith}
use Rattle.{std.proofs.lemmas.Int.ints, def_math.specs.Sums.total, qm_dual.proofs.Tallies.total_take}

pub loop-number-preserved : Rattle.qm_dual.proofs.sums.sum.Goals.loop-number-preserved
loop-number-preserved c =
    let all : List ℤ = c.args.numbers.now.all.now in
    let k : ℕ = c.loop-number.number-index in
    let small : unsigned_abs (get_or all k (pos 0)) < 10 ^ 18 = c.args.numbers.now.small k c.loop-number-test.true in
    let more : total (λ (x : ℤ). x) (take (k + 1) all) ≡ total (λ (x : ℤ). x) (take k all) +ℤ get_or all k (pos 0) =
    total_take (λ (x : ℤ). x) (pos 0) all k c.loop-number-test.true in
    record { value = omega (arith, ints); small = omega (arith, ints) }
