use Rattle.std.proofs.Common.{◌≡◌, ◌<◌, length, List, ℕ, ◌∙◌, sym, ap, refl, arith}
use Rattle.{std.proofs.lemmas.List.get_or_read, qm_dual.proofs.Verdicts.shaped_verdict}
use Rattle.def_matching.specs.{Matching.WeightedGraph, declared.weighted.Verdict.TheVariants.Even}
use Rattle.def_matching.specs.Dual.{DualLists, dual, set_size}
use Rattle.qm_dual.proofs.check.check_sets.Goals as goal

pub index-size-requires : goal.index-size-requires
index-size-requires c = omega (arith, c.in-Some.ensures.low, c.deref.ensures.len)

pub returns-in-Some : goal.returns-in-Some
returns-in-Some c =
    let judged = c.args.judged.now in
    let g : WeightedGraph = judged.g.now.graph in
    let d : DualLists = dual judged.d.whole.now in
    let sizes : List ℕ = c.in_ok-sizes.sizes.items in
    let are = c.in_ok-sizes.ensures in
    let low : c.in-Some.set < length sizes = omega (arith, c.in-Some.ensures.low, ap length c.deref.ensures.value) in
    let size : c.index-size.result.now ≡ set_size g.n d c.in-Some.set =
    get_or_read sizes c.in-Some.set c.index-size.result.now low c.index-size.ensures 0
    ∙ are.each c.in-Some.set (omega (arith, are.count)) ∙ ap (λ n. set_size n d c.in-Some.set) judged.over in
    ap (Even c.in-Some.set) size ∙ sym (shaped_verdict g judged.over judged.d.numbers judged.d.nest.nested are
    c.deref.ensures.value refl c.in-Some.ensures.least refl)

pub returns-in-Some-negative_set : goal.returns-in-Some-negative_set
returns-in-Some-negative_set c =
    let judged = c.args.judged.now in
    sym (shaped_verdict judged.g.now.graph judged.over judged.d.numbers judged.d.nest.nested c.in_ok-sizes.ensures
    c.deref.ensures.value c.deref-2.ensures.value (sym c.in_default.is ∙ c.even_set.ensures.least)
    (sym c.in-Some-negative_set.is ∙ c.negative_set.ensures))

pub returns : goal.returns
returns c =
    let judged = c.args.judged.now in
    c.check_loads.ensures ∙ sym (shaped_verdict judged.g.now.graph judged.over judged.d.numbers judged.d.nest.nested
    c.in_ok-sizes.ensures c.deref.ensures.value c.deref-2.ensures.value (sym c.in_default.is ∙ c.even_set.ensures.least)
    (sym c.in_default-negative_set.is ∙ c.negative_set.ensures))
