use Rattle.std.proofs.Common.{◌≡◌, ◌≤◌, ◌<◌, ◌*◌, ◌^◌, ℕ, length, get_or, map, sym, ap, ◌∙◌, subst, arith}
use Rattle.def_layout.specs.{Arcs.long_at, Lengths.Lengths, Lengths.AreLengths, declared.tmesh.TArc.TArc}
use Rattle.def_layout.specs.Layouts.{gluing_of, layout_of, Layout}
use Rattle.qm_refine.proofs.Multiplied.{are_multiples, arcs_short, multiple_few, multiple_is, multiples_of}
use Rattle.{std.proofs.lemmas.List.take_all, std.proofs.lemmas.Nat.mul-le, def_remesh.specs.NewPoints.lengths_in}
use Rattle.{def_remesh.specs.NewPoints.multiple_of, qm_refine.proofs.Multiplied.multiples_told}
use Rattle.{def_flow.specs.declared.limits.TheConstants.MAX_LENGTH, def_layoutnet.specs.MeshLayouts.IsSomeLayout}
use Rattle.qm_refine.proofs.lengths.multiples.Goals as goal

pub overflow_mul-from : goal.overflow_mul-from
overflow_mul-from c =
    let t = c.layout-layout.result.now in
    let arc = c.arc-item.result in
    let read : arc ≡ get_or t.arcs.items c.loop-arc.arc-index arc =
    c.arc-item.is ∙ ap (λ xs. get_or xs c.loop-arc.arc-index arc) c.deref-arc-items.ensures.value in
    let is : IsSomeLayout (layout_of t) =
    subst IsSomeLayout (sym c.layout-layout.ensures.layout) c.layout-layout.ensures.laid.0 in
    let short : length arc.darts.items < 2 ^ 32 = subst (λ (run : TArc). length run.darts.items < 2 ^ 32) (sym read)
    (arcs_short t is c.loop-arc.arc-index arc
    (omega (arith, c.loop-arc-test.true, ap length c.deref-arc-items.ensures.value))) in
    let long : c.len-in-loop-arc.result ≡ length arc.darts.items = c.len-in-loop-arc.ensures ∙ arc.darts.ok.0 in
    omega (
      arith,
      mul-le c.from.result c.len-in-loop-arc.result 1000 (2 ^ 32) (omega (arith, c.from.ensures, c.requires.few))
          (omega (arith, long, short)),
    )

value : (c : goal.After-loop-arc) → c.loop-arc.lengths.items ≡ multiples_of c.args.by c.args.cut.now.layout.arcs
value c = c.loop-arc.invariant ∙ ap (map (λ (arc : TArc). c.args.by * length arc.darts.items))
    (take_all c.loop-arc.arc-index c.deref-arc-items.result.now c.loop-arc-test.false ∙ c.deref-arc-items.ensures.value)
    ∙ multiples_told c.args.by c.layout-layout.result.now.arcs.items ∙ ap (λ (layout : Layout). multiples_of c.args.by
    layout.arcs) c.layout-layout.ensures.layout

same : (c : goal.After-loop-arc) → lengths_in c.loop-arc.lengths.items
    ≡ multiple_of c.args.by (long_at c.args.cut.now.layout.arcs)
same c = multiple_is c.args.by c.args.cut.now.layout.arcs c.loop-arc.lengths.items (value c)

pub returns-clause-value : goal.returns-clause-value
returns-clause-value c = value c

pub returns-clause-multiple : goal.returns-clause-multiple
returns-clause-multiple c = same c

pub returns-clause-lengths : goal.returns-clause-lengths
returns-clause-lengths c some = subst (AreLengths (gluing_of c.args.cut.now.layout)) (sym (same c))
    (are_multiples c.args.cut.now.layout c.layout-layout.ensures.laid.0 c.args.by some)

pub returns-clause-bounded : goal.returns-clause-bounded
returns-clause-bounded c = subst (λ (l : Lengths). (arc : ℕ) → l arc ≤ MAX_LENGTH) (sym (same c))
    (λ arc. multiple_few c.args.cut.now.layout c.layout-layout.ensures.laid.0 c.args.by arc c.requires.few)
