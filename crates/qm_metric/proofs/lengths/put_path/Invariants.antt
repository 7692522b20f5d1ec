use Rattle.std.proofs.Common.{◌≡◌, ◌<◌, ◌^◌, length, take}
use Rattle.{std.specs.List.All, def_mesh.specs.Darts.darts, qm_metric.specs.Lengths.with_path}

abbrev pub invariant-loop-dart : Rattle.qm_metric.proofs.lengths.put_path.Given.invariant-loop-dart
invariant-loop-dart l = record {
  put : l.lengths ≡ with_path l.cut.soup.faces l.cut.soup.pos l.initial.lengths (take l.dart-index l.path);
  table : length l.lengths ≡ darts l.cut.soup.faces;
  small : All (λ share. share < 2 ^ 62) l.lengths;
}
