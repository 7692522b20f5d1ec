use Rattle.std.proofs.Common.{◌≡◌, ◌+◌, ◌-◌, ◌≤◌, ◌++◌, length, drop}
use Rattle.{def_math.specs.Counts.count, def_math.specs.Increasing.IsIncreasing, gadget_laws.specs.Told.marks_from}
use Rattle.{gadget_laws.specs.Told.states_told, qm_gadget.specs.Layout.copies_in, qm_gadget.specs.Read.width_of_unit}

abbrev pub invariant-loop-unit : Rattle.qm_gadget.proofs.lengths.states_in.Given.invariant-loop-unit
invariant-loop-unit l = record {
  states : l.ons.items ++ states_told (copies_in l.spread.counts.now) (drop l.unit-index l.spread.units.now)
      (marks_from l.k (l.edges - l.k) (drop l.at l.m)) ≡ states_told (copies_in l.spread.counts.now) l.spread.units.now
      (marks_from 0 l.edges l.m);
  increasing : IsIncreasing l.k l.edges (drop l.at l.m);
  place : l.k + count (width_of_unit (copies_in l.spread.counts.now)) (drop l.unit-index l.spread.units.now) ≤ l.edges;
  inside : l.at ≤ length l.m;
}
