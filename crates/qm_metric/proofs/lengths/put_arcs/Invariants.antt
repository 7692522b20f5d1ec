use Rattle.std.proofs.Common.{◌≡◌, ◌<◌, ◌^◌, length, take}
use Rattle.{std.specs.List.All, def_mesh.specs.Darts.darts, qm_metric.specs.Lengths.with_arcs}

abbrev pub invariant-loop-arc : Rattle.qm_metric.proofs.lengths.put_arcs.Given.invariant-loop-arc
invariant-loop-arc l = record {
  put : l.lengths ≡ with_arcs l.cut.soup.faces l.cut.soup.pos l.initial.lengths (take l.arc-index l.arcs);
  table : length l.lengths ≡ darts l.cut.soup.faces;
  small : All (λ share. share < 2 ^ 62) l.lengths;
}
