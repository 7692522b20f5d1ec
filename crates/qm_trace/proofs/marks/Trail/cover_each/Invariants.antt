use Rattle.std.proofs.Common.{◌≡◌, ◌<◌, ◌||◌, ℕ, take}
use Rattle.def_mesh.specs.Darts.{darts, twin_of}
use Rattle.def_cut.specs.{FullCut.is_on, Motion.is_among, Motion.is_found}

abbrev pub invariant-loop-d : Rattle.qm_trace.proofs.marks.Trail.cover_each.Given.invariant-loop-d
invariant-loop-d l = (d : ℕ) → d < darts l.self.mesh.now → is_on l.covered d ≡ (is_on l.initial.covered d
    || (is_among d (take l.d-index l.self.darts.now)
    || is_found (twin_of l.self.mesh.now d) (take l.d-index l.self.darts.now)))
