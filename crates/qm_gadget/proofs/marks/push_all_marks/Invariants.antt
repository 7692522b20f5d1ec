use Rattle.std.proofs.Common.{◌≡◌, ℕ, ◌+◌, ◌*◌, ◌≤◌, ◌++◌, length, drop, slice_index}
use Rattle.{gadget_laws.specs.Marks.places, gadget_laws.specs.Marks.units_marks, qm_gadget.specs.Layout.copies_in}

abbrev pub invariant-loop-i : Rattle.qm_gadget.proofs.marks.push_all_marks.Given.invariant-loop-i
invariant-loop-i l = record {
  marks : l.m.items ++ places l.k (units_marks (copies_in l.laid.counts.now) (copies_in l.used)
      (drop l.i l.laid.stated.units.now) (drop l.i l.laid.stated.ons.now)) ≡ l.initial.m.items
      ++ places 0 (units_marks (copies_in l.laid.counts.now) (copies_in l.initial.used) l.laid.stated.units.now
      l.laid.stated.ons.now);
  place : l.k + length (units_marks (copies_in l.laid.counts.now) (copies_in l.used) (drop l.i l.laid.stated.units.now)
      (drop l.i l.laid.stated.ons.now))
      ≡ length (units_marks (copies_in l.laid.counts.now) (copies_in l.initial.used) l.laid.stated.units.now
      l.laid.stated.ons.now);
  long : length l.used ≡ length l.laid.counts.now;
  small : (v : ℕ) → slice_index l.used v ≤ 2 * l.i;
}
