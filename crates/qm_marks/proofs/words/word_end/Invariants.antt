use Rattle.std.proofs.Common.{◌≡◌, ◌<◌, ℕ, false, get_or}
use Rattle.def_text.specs.Words.{is_blank}

abbrev pub invariant-loop-i : Rattle.qm_marks.proofs.words.word_end.Given.invariant-loop-i
invariant-loop-i l = (k : ℕ) → k < l.i → is_blank (get_or l.text k 0) ≡ false
