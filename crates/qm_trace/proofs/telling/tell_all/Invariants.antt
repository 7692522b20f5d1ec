use Rattle.std.proofs.Common.{◌≡◌, ℕ, length, take}
use Rattle.qm_trace.specs.Motions.{AreCounted, told_along}
use Rattle.{def_mesh.specs.Vertices.fan_of, def_cut.specs.Events.note_at, def_cut.specs.Events.rider_at}

-- The riders whose noted darts end before these darts are told, and no others.
abbrev pub invariant-loop-e : Rattle.qm_trace.proofs.telling.tell_all.Given.invariant-loop-e
invariant-loop-e l = record {
  told : (r : ℕ) → rider_at l.riders.list.items r ≡ told_along l.mesh l.site l.notes.taken.items
      (take l.e-index (fan_of l.mesh l.v)) (note_at l.notes.noted.items r) (rider_at l.initial.riders.list.items r);
  counted : AreCounted l.riders l.notes.noted.items;
  many : length l.riders.list.items ≡ length l.initial.riders.list.items;
}
