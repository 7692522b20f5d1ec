use Rattle.std.proofs.Common.{◌≡◌, ◌<◌, ℕ, false, get_or}
use Rattle.qm_obj.specs.Lines.{is_end}

abbrev pub invariant-loop-i : Rattle.qm_obj.proofs.words.word_end.Given.invariant-loop-i
invariant-loop-i l = (k : ℕ) → k < l.i → is_end (get_or l.text k 0) ≡ false
