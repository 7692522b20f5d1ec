use Rattle.std.proofs.Common.{◌≡◌, ◌<◌, ◌||◌, not, is_some, cond, ltb, false, ℕ}
use Rattle.{def_mesh.specs.Darts.darts, def_mesh.specs.Darts.twin_of, def_cut.specs.FullCut.is_on}

abbrev pub invariant-loop-d : Rattle.qm_trace.proofs.ending.close_each.Given.invariant-loop-d
invariant-loop-d l = (d : ℕ) → d < darts l.mesh
    → is_on l.covered d ≡ (is_on l.initial.covered d || cond (ltb d l.d) (not (is_some (twin_of l.mesh d))) false)
