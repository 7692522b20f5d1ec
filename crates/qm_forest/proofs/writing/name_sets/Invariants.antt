use Rattle.{std.proofs.Common.◌≡◌, std.proofs.Common.length, qm_forest.specs.Outlines.AreNames}

abbrev pub invariant-loop-k : Rattle.qm_forest.proofs.writing.name_sets.Given.invariant-loop-k
invariant-loop-k l = record {
  size : length l.names.items ≡ length l.fn.names.items;
  named : AreNames l.sets l.k l.names.items;
}
