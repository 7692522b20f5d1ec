use Rattle.std.proofs.Common.{◌≡◌, ◌-◌, ◌^◌, ℕ, get_or, ap, ◌∙◌, arith, take, [], ◌∷◌}
use Rattle.{std.proofs.lemmas.List.take_more, qm_metric.specs.Wishes.wish_along, std.proofs.lemmas.List.map-append}
use Rattle.{std.specs.Prelude.min, def_layout.specs.declared.tmesh.TArc.TArc, table_laws.proofs.Ranges.count_take}

pub loop-run-preserved : Rattle.qm_metric.proofs.sums.sums_of.Goals.loop-run-preserved
loop-run-preserved c =
    let f : TArc → ℕ = λ run. wish_along c.args.aim.now c.args.cut.now.soup c.args.wishes.now run.darts.items in
    let at : TArc = get_or c.args.runs.now c.loop-run.run-index c.run-item.result in
    let value : c.wish_along-wish.result ≡ f at = c.wish_along-wish.ensures.value
    ∙ ap (wish_along c.args.aim.now c.args.cut.now.soup c.args.wishes.now) (c.deref.ensures.value
    ∙ ap (λ (run : TArc). run.darts.items) c.run-item.is) in
    let cut : c.min.result ≡ min (f at) (2 ^ 32 - 1) = omega (arith, c.min.ensures, value, c.from.ensures) in
    record {
      sum = omega (arith, count_take f c.run-item.result c.args.runs.now c.loop-run.run-index c.loop-run-test.true);
      found = rw (
        c.in_ok-push.ensures.items,
        c.loop-run.invariant.found,
        cut,
        ← map-append (λ run. min (f run) (2 ^ 32 - 1)) (take c.loop-run.run-index c.args.runs.now) (at ∷ []),
        take_more c.args.runs.now c.loop-run.run-index c.run-item.result c.loop-run-test.true,
      );
      small = omega (arith, c.loop-run.invariant.small, c.wish_along-wish.ensures.small);
    }
