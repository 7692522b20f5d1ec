use Rattle.std.proofs.Common.{◌≡◌, ◌*◌, ◌^◌, ◌≤◌, false}
use Rattle.{def_math.specs.Counts.count_below, qm_place.specs.Paths.share_by}

abbrev pub invariant-loop-dart : Rattle.qm_place.proofs.path.path_of.Given.invariant-loop-dart
invariant-loop-dart l = record {
  sum : l.all ≡ count_below (share_by l.darts l.shares false) l.dart-index;
  few : l.all ≤ l.dart-index * 2 ^ 62;
}
