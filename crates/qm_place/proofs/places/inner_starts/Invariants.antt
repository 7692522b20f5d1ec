use Rattle.{def_remesh.specs.Numberings.AreRunStarts, qm_place.specs.Spots.inner_of}

abbrev pub invariant-loop-rim : Rattle.qm_place.proofs.places.inner_starts.Given.invariant-loop-rim
invariant-loop-rim l = AreRunStarts (inner_of l.rims) l.rim-index l.starts.begin.items
