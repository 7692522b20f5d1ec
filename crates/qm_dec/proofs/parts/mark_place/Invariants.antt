use Rattle.std.proofs.Common.{◌≡◌, ◌<◌, ℕ, false, get_or}
use Rattle.def_text.specs.Decimal.{is_mark}

abbrev pub invariant-loop-i : Rattle.qm_dec.proofs.parts.mark_place.Given.invariant-loop-i
invariant-loop-i l = (k : ℕ) → k < l.i → is_mark (get_or l.body k 0) ≡ false
