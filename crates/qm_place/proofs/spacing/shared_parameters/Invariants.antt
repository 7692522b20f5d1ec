use Rattle.std.proofs.Common.{◌≡◌, ◌+◌, ◌-◌, ◌<◌, ℕ, true, length, Some}
use Rattle.def_remesh.specs.{NewPoints.lengths_in, Spaced.spacing_by}
use Rattle.{std.specs.Prelude.slice_index, def_layout.specs.Layouts.layout_of, def_written.specs.Numbers.before_arc}

abbrev pub invariant-loop-arc : Rattle.qm_place.proofs.spacing.shared_parameters.Given.invariant-loop-arc
invariant-loop-arc l = record {
  long : length l.parameters.items ≡ before_arc (lengths_in l.lengths) l.arc;
  each : (arc k : ℕ) → arc < l.arc → 0 < k → k < lengths_in l.lengths arc
      → slice_index l.parameters.items (before_arc (lengths_in l.lengths) arc + k - 1)
      ≡ (spacing_by (layout_of l.t) (Some l.shares) (lengths_in l.lengths)).parameter_of arc true k;
}
