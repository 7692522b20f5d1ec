use Rattle.std.proofs.Common.{◌≡◌, ◌+◌, ◌*◌, ◌≤◌, ◌++◌, drop}
use Rattle.{gadget_laws.specs.Marks.places, qm_gadget.specs.Marked.rim_by}

abbrev pub invariant-loop-i : Rattle.qm_gadget.proofs.rim_marks.push_rim_marks.Given.invariant-loop-i
invariant-loop-i l = record {
  marks : l.m.items ++ places l.k (rim_by l.there l.waits (drop l.i l.states)) ≡ l.initial.m.items
      ++ places l.fn.first (rim_by l.fn.lone l.fn.lone l.states);
  place : l.k ≤ l.fn.first + 4 * l.i;
}
