use Rattle.{def_text.specs.Words.words, qm_obj.specs.Lines.uncommented, std.proofs.Common.length, std.proofs.Common.◌≡◌}
use Rattle.{std.proofs.Common.◌≤◌}
use Rattle.qm_obj.proofs.words.skip_blanks.Given as goal

abbrev pub invariant-loop-rest : goal.invariant-loop-rest
invariant-loop-rest l =
    record { same : words (uncommented l.rest) ≡ words (uncommented l.text); shorter : length l.rest ≤ length l.text }

abbrev pub decreases-loop-rest : goal.decreases-loop-rest
decreases-loop-rest l = length l.rest
