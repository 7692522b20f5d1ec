use Rattle.std.proofs.Common.{◌≡◌, ◌<◌, ℕ, false}
use Rattle.def_cut.specs.Events.{is_waiting, note_at, rider_at}

abbrev pub invariant-riders : Rattle.qm_trace.proofs.events.first_waiting.Given.invariant-riders
invariant-riders l = record {
  none : (q : ℕ) → q < l.r → is_waiting (rider_at l.riders q).stop (note_at l.noted q) ≡ false;
}
