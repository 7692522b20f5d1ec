use Rattle.std.proofs.{lemmas.List.Elements.Contains-get_or, lemmas.Result.IfOk-weaker}
use Rattle.qm_stitch.specs.{declared.remedy.Remedy.Remedy}
use Rattle.qm_stitch.proofs.{RiseLists.choice_follows, RiseLists.choice_needed, RiseLists.remedy_in}
use Rattle.qm_stitch.proofs.rises.cheapest_rises.Goals as goal

pub cheapest_arcs-requires : goal.cheapest_arcs-requires
cheapest_arcs-requires c k d low =
    remedy_in _ _ _ _ ((c.in_ok-remedies.ensures _).0 (Contains-get_or c.in_ok-remedies.remedies.items k d low))

pub returns : goal.returns
returns c =
    let priced = c.args.priced.now in
    let paved = priced.keyed.numbered.numbers.whole.paved in
    let long = rw priced.same at priced.keyed.numbered.numbers.long in
    let found = λ (r : Remedy). rw priced.same at (c.in_ok-remedies.ensures r) in
    let marks = rw (← c.deref-2.ensures.value) at c.in_ok-chosen.ensures in
    let told = rw c.deref.ensures.value at c.is_any-some.ensures in
    record {
      needed = IfOk-weaker _ _ _ (λ rises risen. choice_needed priced.prices.now paved long found marks told risen
          priced.short) c.rises_by.ensures;
      cheapest = IfOk-weaker _ _ _
          (λ rises risen. choice_follows _ paved long found marks told risen) c.rises_by.ensures;
    }
