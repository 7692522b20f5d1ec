use Rattle.std.proofs.Common.{◌<◌, length, rules, ap, sym, ◌∙◌, arith}
use Rattle.std.proofs.lemmas.List.{with_items_is, get_or_read}
use Rattle.qm_sing.proofs.Numberings.{numbering_none, numbering_closed, numbering_low, numbering_skip, numbering_more}
use Rattle.qm_sing.proofs.Numberings.{numbers_are, count_is}
use Rattle.qm_sing.proofs.flooding.components.Goals.{then-index+in_ok-flood, else-index}
use Rattle.qm_sing.proofs.flooding.components.Goals as goal

pub loop-f-init : goal.loop-f-init
loop-f-init c = search (rules, numbering_none)

pub flood-requires-clause-closed : goal.flood-requires-clause-closed
flood-requires-clause-closed c = rw c.deref_mut.ensures.value (numbering_closed c.loop-f.invariant.numbering)

pub overflow_add-components : goal.overflow_add-components
overflow_add-components c = grind (arith, numbering_low c.loop-f.invariant.numbering)

pub loop-f-preserved : goal.loop-f-preserved
loop-f-preserved c =
    let n = c.loop-f.invariant.numbering in
    let lf : c.loop-f.f < length c.args.mesh.now =
    omega (arith, c.loop-f-test.true, ap length c.faces-faces.ensures.value) in
    let read = get_or_read c.loop-f.numbers.items c.loop-f.f c.index.result.now (omega (arith, n.long))
    c.index.ensures 0 in
    elim c.if-index.branch [
      | then-index+in_ok-flood w ↦ search (
        rules,
        with_items_is c.loop-f.numbers w.flood.new.numbers (w.flood.auto.numbers ∙ w.deref_mut.ensures.len),
        numbering_more n lf,
      )
      | else-index w ↦ grind (arith, numbering_skip n lf)
    ]

pub returns-clause-numbers : goal.returns-clause-numbers
returns-clause-numbers c = numbers_are c.loop-f.invariant.numbering
    (omega (arith, c.loop-f-test.false, c.loop-f.auto.f-end, ap length c.faces-faces.ensures.value))

pub returns-clause-many : goal.returns-clause-many
returns-clause-many c = count_is c.loop-f.invariant.numbering
    (omega (arith, c.loop-f-test.false, c.loop-f.auto.f-end, ap length c.faces-faces.ensures.value))
