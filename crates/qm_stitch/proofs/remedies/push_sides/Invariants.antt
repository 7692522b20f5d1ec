use Rattle.qm_stitch.specs.Remedies.{AddsRemedies, IsAlongSides}

abbrev pub invariant-loop-side : Rattle.qm_stitch.proofs.remedies.push_sides.Given.invariant-loop-side
invariant-loop-side l = AddsRemedies l.initial.found.items l.found.items (IsAlongSides l.priced l.patch l.side)
