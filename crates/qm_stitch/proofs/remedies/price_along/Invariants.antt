use Rattle.std.proofs.Common.{◌≡◌, ◌*◌, ◌^◌, take, pos, neg_ℤ, ◌≤ℤ◌}
use Rattle.qm_stitch.specs.{Lengthened.lengths_by, Remedies.price_along}

abbrev pub invariant-loop-used : Rattle.qm_stitch.proofs.remedies.price_along.Given.invariant-loop-used
invariant-loop-used l = record {
  sum : l.price ≡ price_along (lengths_by l.priced.keyed.numbered) l.priced.prices.now (take l.used-index l.uses);
  low : neg_ℤ (pos (2 ^ 63 * l.used-index)) ≤ℤ l.price;
  high : l.price ≤ℤ pos (2 ^ 63 * l.used-index);
}
