use Rattle.std.proofs.Common.{◌≡◌, ◌<◌, ℕ, false}
use Rattle.qm_stitch.specs.Rims.{is_repeat_at}

abbrev pub invariant-loop-place : Rattle.qm_stitch.proofs.repeat.first_repeat.Given.invariant-loop-place
invariant-loop-place l = (k : ℕ) → k < l.place → is_repeat_at l.keys k ≡ false
