use Rattle.{def_text.specs.Words.words, std.proofs.Common.length, std.proofs.Common.◌≡◌}
use Rattle.qm_marks.proofs.words.skip_blanks.Given as goal

abbrev pub invariant-loop-rest : goal.invariant-loop-rest
invariant-loop-rest l = words l.rest ≡ words l.text

abbrev pub decreases-loop-rest : goal.decreases-loop-rest
decreases-loop-rest l = length l.rest
