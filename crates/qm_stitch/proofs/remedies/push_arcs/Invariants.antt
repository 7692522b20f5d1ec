use Rattle.qm_stitch.specs.Remedies.{AddsRemedies, IsAlongArcs}

abbrev pub invariant-loop-arc : Rattle.qm_stitch.proofs.remedies.push_arcs.Given.invariant-loop-arc
invariant-loop-arc l = AddsRemedies l.initial.found.items l.found.items (IsAlongArcs l.priced l.arc)
