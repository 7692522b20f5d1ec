use Rattle.{std.proofs.Common.◌≡◌, std.proofs.Common.length, def_cut.specs.Views.IsMotionOn}

abbrev pub invariant-choices : Rattle.qm_trace.proofs.choosing.trace_by.Given.invariant-choices
invariant-choices l = record {
  motion : IsMotionOn l.mesh l.motion;
  riders : length l.src.starts.items ≡ length l.motion.starts;
}
