use Rattle.{std.proofs.Common.arith, def_metric.specs.Targets.edge_length, table_laws.proofs.Ranges.count_take}

pub loop-dart-preserved : Rattle.qm_metric.proofs.measures.measure_of.Goals.loop-dart-preserved
loop-dart-preserved c =
    let one = c.edge_length.ensures in
    let more = count_take (edge_length c.args.cut.now.soup.faces c.args.cut.now.soup.pos) 0 c.args.path.now
    c.loop-dart.dart-index c.loop-dart-test.true in
    record {
      sum = omega (arith, more);
      small = omega (arith, c.loop-dart.invariant.small, c.from-sum.ensures, one.small);
    }
