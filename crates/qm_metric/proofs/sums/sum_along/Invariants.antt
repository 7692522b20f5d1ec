use Rattle.std.proofs.Common.{◌≡◌, ◌*◌, ◌^◌, ◌≤◌, slice_index_or, take}
use Rattle.def_math.specs.Counts.{count}

abbrev pub invariant-loop-dart : Rattle.qm_metric.proofs.sums.sum_along.Given.invariant-loop-dart
invariant-loop-dart l = record {
  sum : l.sum ≡ count (λ d. slice_index_or l.wishes d 1000) (take l.dart-index l.path);
  small : l.sum ≤ l.dart-index * 2 ^ 32;
}
