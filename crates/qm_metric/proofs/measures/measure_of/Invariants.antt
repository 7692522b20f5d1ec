use Rattle.std.proofs.Common.{◌≡◌, ◌*◌, ◌^◌, ◌≤◌, take}
use Rattle.{def_math.specs.Counts.count, def_metric.specs.Targets.edge_length}

abbrev pub invariant-loop-dart : Rattle.qm_metric.proofs.measures.measure_of.Given.invariant-loop-dart
invariant-loop-dart l = record {
  sum : l.sum ≡ count (edge_length l.cut.soup.faces l.cut.soup.pos) (take l.dart-index l.path);
  small : l.sum ≤ l.dart-index * 2 ^ 62;
}
