use Rattle.{std.proofs.Common.◌≡◌, std.proofs.Common.length, def_text.specs.Canonical.without_zeros}
use Rattle.qm_dec.proofs.write.strip_zeros.Given as goal

abbrev pub invariant-loop-left : goal.invariant-loop-left
invariant-loop-left l = without_zeros l.left ≡ without_zeros l.digits

abbrev pub decreases-loop-left : goal.decreases-loop-left
decreases-loop-left l = length l.left
