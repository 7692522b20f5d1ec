use Rattle.std.proofs.Common.{◌≡◌, ◌<◌, ℕ, length}
use Rattle.def_remesh.specs.{NewPoints.lengths_in, Placings.rim_at, Placings.IsRim}
use Rattle.{def_layout.specs.Layouts.layout_of, qm_place.specs.OnArcs.spacing_on}

abbrev pub invariant-loop-patch : Rattle.qm_place.proofs.sides.sides_of.Given.invariant-loop-patch
invariant-loop-patch l = record {
  count : length l.rims.items ≡ l.patch;
  each : (p : ℕ) → p < l.patch
      → IsRim (layout_of l.places.t.now) (lengths_in l.places.lengths.now) (spacing_on l.places) p
      (rim_at l.rims.items p) l.parameters.items;
}
