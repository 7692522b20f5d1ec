use Rattle.std.proofs.Common.{◌≡◌, false, length, replicate, rules, ◌∙◌, ap}
use Rattle.std.proofs.lemmas.List.{get_or-replicate, length-replicate, with_items_is, Sorted.All-permutation}
use Rattle.qm_stitch.{specs.declared.remedy.Remedy.Remedy, proofs.Grids.marks_of, proofs.Grids.counts}
use Rattle.{def_layout.specs.Layouts.layout_of, qm_stitch.specs.Remedies.IsRunIn}
use Rattle.qm_stitch.proofs.cheapest.cheapest_arcs.Goals as goal

pub mark_firsts-requires-clause-runs : goal.mark_firsts-requires-clause-runs
mark_firsts-requires-clause-runs c = rw c.deref.ensures.value (All-permutation
    (λ (r : Remedy). IsRunIn (layout_of c.args.numbered.now.t.now) r.run) _ _ c.sort.ensures.moved c.requires)

pub returns : goal.returns
returns c =
    let many = length c.args.numbered.now.t.now.arcs.items in
    let blank : c.deref_mut.result.now ≡ replicate many false = search rules in
    rw (with_items_is c.in_ok-chosen.chosen _ (c.mark_firsts.auto.chosen ∙ c.deref_mut.ensures.len))
    (marks_of _ (rw c.deref.ensures.value c.sort.ensures.moved) (rw c.deref.ensures.value c.sort.ensures.ordered) _
    (omega (counts, ap length blank, length-replicate many false)) c.mark_firsts.auto.chosen
    (λ arc low. rw blank (get_or-replicate many _ _ _ (omega counts))) c.mark_firsts.ensures)
