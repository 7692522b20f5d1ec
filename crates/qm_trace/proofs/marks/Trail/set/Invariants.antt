use Rattle.std.proofs.Common.{◌≡◌, ℕ, cond, length, take}
use Rattle.def_cut.specs.{FullCut.is_on, Motion.is_among}

abbrev pub invariant-loop-d : Rattle.qm_trace.proofs.marks.Trail.set.Given.invariant-loop-d
invariant-loop-d l = record {
  long : length l.marks.items ≡ length l.initial.marks.items;
  each : (d : ℕ) → is_on l.marks.items d ≡ cond (is_among d (take l.d-index l.self.darts.now)) l.value
      (is_on l.initial.marks.items d);
}
