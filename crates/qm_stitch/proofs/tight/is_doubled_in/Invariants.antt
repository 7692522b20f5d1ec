use Rattle.std.proofs.Common.{◌<◌, ℕ}
use Rattle.qm_stitch.specs.{Lengthened.gluing_in, Lengthened.lengths_by, Tight.IsLineDoubled}

abbrev pub invariant-loop-number : Rattle.qm_stitch.proofs.tight.is_doubled_in.Given.invariant-loop-number
invariant-loop-number l = record {
  some : 0 < l.number;
  none : (n : ℕ) → 0 < n → n < l.number
      → ¬ IsLineDoubled (gluing_in l.keyed.numbered) (lengths_by l.keyed.numbered) l.upright l.patch n;
}
