use Rattle.std.proofs.Common.{◌≡◌, ◌*◌, ◌^◌, ◌≤◌, take, unsigned_abs}
use Rattle.def_math.specs.Sums.{total}

abbrev pub invariant-loop-number : Rattle.qm_dual.proofs.sums.sum.Given.invariant-loop-number
invariant-loop-number l = record {
  value : l.sum ≡ total (λ x. x) (take l.number-index l.numbers.all.now);
  small : unsigned_abs l.sum ≤ l.number-index * 10 ^ 18;
}
