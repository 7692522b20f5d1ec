use Rattle.std.proofs.Common.{◌≡◌, cond, true, ℕ, take}
use Rattle.def_cut.specs.{FullCut.is_on, Motion.is_among}

abbrev pub invariant-loop-d : Rattle.qm_feature.proofs.tracing.mark_starts.Given.invariant-loop-d
invariant-loop-d l = (d : ℕ) → is_on l.begun d ≡ cond (is_among d (take l.d-index l.starts)) true
    (is_on l.initial.begun d)
