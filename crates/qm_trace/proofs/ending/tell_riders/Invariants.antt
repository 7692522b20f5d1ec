use Rattle.std.proofs.Common.{◌≡◌, ◌≤◌, length, take}
use Rattle.{std.specs.Vec.vec_capacity, def_cut.specs.Traced.AreRiders}

abbrev pub invariant-loop-r : Rattle.qm_trace.proofs.ending.tell_riders.Given.invariant-loop-r
invariant-loop-r l = record {
  told : AreRiders (take l.r l.riders) (take l.r l.starts) l.told.items;
  many : length l.told.items ≡ l.r;
  room : length l.starts ≤ vec_capacity l.told;
}
