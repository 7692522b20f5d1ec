use Rattle.{std.specs.Prelude.slice_index, qm_metric.specs.Wishes.AreWished}

abbrev pub invariant-loop-k : Rattle.qm_metric.proofs.wishes.put_wishes.Given.invariant-loop-k
invariant-loop-k l = AreWished l.k (slice_index l.wishes) l.initial.arcs l.arcs
