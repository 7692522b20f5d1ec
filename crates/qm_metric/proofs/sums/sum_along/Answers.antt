use Rattle.std.proofs.{Common.◌≡◌, Common.◌∙◌, Common.ℕ, Common.get_or, Common.arith, lemmas.List.get_or_default}
use Rattle.table_laws.proofs.Ranges.{count_take}

pub loop-dart-preserved : Rattle.qm_metric.proofs.sums.sum_along.Goals.loop-dart-preserved
loop-dart-preserved c =
    let dart : ℕ = get_or c.args.path.now c.loop-dart.dart-index 0 in
    let value : c.from-sum.result ≡ get_or c.args.wishes.now dart 1000 = c.from-sum.ensures ∙ get_or_default
    c.args.wishes.now dart 0 1000 (c.requires.inside c.loop-dart.dart-index 0 c.loop-dart-test.true) in
    let more = count_take (λ d. get_or c.args.wishes.now d 1000) 0 c.args.path.now c.loop-dart.dart-index
    c.loop-dart-test.true in
    record {
      sum = omega (arith, more);
      small = omega (arith, c.loop-dart.invariant.small, c.from-sum.ensures, c.type_inv.wishes dart);
    }
