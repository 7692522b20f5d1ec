use Rattle.{def_layout.specs.Layouts.layout_of, qm_stitch.specs.Remedies.IsFirstUpto, qm_stitch.specs.Tight.AddsMarks}

abbrev pub invariant-loop-k : Rattle.qm_stitch.proofs.cheapest.mark_firsts.Given.invariant-loop-k
invariant-loop-k l = AddsMarks l.initial.chosen l.chosen (IsFirstUpto (layout_of l.numbered.t.now) l.remedies l.k)
