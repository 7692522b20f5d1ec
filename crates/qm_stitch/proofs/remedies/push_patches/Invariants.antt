use Rattle.qm_stitch.specs.Remedies.{AddsRemedies, IsAlongPatches}

abbrev pub invariant-loop-patch : Rattle.qm_stitch.proofs.remedies.push_patches.Given.invariant-loop-patch
invariant-loop-patch l = AddsRemedies l.initial.found.items l.found.items (IsAlongPatches l.priced l.patch)
