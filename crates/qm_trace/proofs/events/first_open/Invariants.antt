use Rattle.std.proofs.Common.{◌≡◌, ℕ, true, Some, take}
use Rattle.def_cut.specs.{Events.note_at, FullCut.is_on, Motion.is_among}
use Rattle.def_mesh.specs.Darts.{to_of}

abbrev pub invariant-queue : Rattle.qm_trace.proofs.events.first_open.Given.invariant-queue
invariant-queue l = record {
  none : (r d : ℕ) → is_among r (take l.r-index l.queue) ≡ true → note_at l.noted r ≡ Some d
      → is_on l.settled (to_of l.mesh d) ≡ true;
}
