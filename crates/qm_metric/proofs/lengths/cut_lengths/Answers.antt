use Rattle.std.proofs.Common.{rules, ◌≡◌, ◌<◌, ℕ, replicate, ◌∙◌}
use Rattle.{std.proofs.lemmas.List.with_items_is, mesh_laws.proofs.Chains.manifold_law}
use Rattle.{def_layout.specs.declared.tmesh.TArc.TArc, def_layout.specs.Nodes.is_node, def_mesh.specs.Darts.darts}
use Rattle.qm_metric.proofs.{CutTables.filled_is, Nets.runs_inside, lengths.cut_lengths.Goals.After-deref}
use Rattle.{std.specs.List.All, qm_metric.specs.Lengths.with_arcs}
use Rattle.qm_metric.proofs.lengths.cut_lengths.Goals as goal

-- The darts of the arcs are darts of the mesh.
inside : (c : After-deref) → All (λ (arc : TArc). All (λ (d : ℕ). d < darts c.args.cut.now.soup.faces) arc.darts.items)
    c.layout-layout.result.now.arcs.items
inside c = search (rules, runs_inside)

pub put_arcs-requires-clause-inside : goal.put_arcs-requires-clause-inside
put_arcs-requires-clause-inside c = rw c.deref.ensures.value (inside c)

pub returns : goal.returns
returns c marks full laid =
    let at = (goal.at.returns c).After-deref in
    let soup = c.args.cut.now.soup in
    let arcs = c.layout-layout.result.now.arcs.items in
    let begun : c.deref_mut.result.now ≡ replicate (darts soup.faces) 0 = rw (
      c.deref_mut.ensures.value,
      c.in_ok-lengths.ensures.items_if_clones_equal (λ y is. is),
      c.faces.ensures.value,
      c.mesh-mesh.ensures,
    ) in
    let put = c.put_arcs.ensures.value ∙ (λ i. with_arcs soup.faces soup.pos (begun i) (c.deref.ensures.value i)) in
    let mesh = c.layout-layout.ensures.laid in
    with_items_is c.in_ok-lengths.lengths c.put_arcs.new.lengths (c.put_arcs.auto.lengths ∙ c.deref_mut.ensures.len)
    ∙ put ∙ filled_is soup.faces soup.pos (manifold_law soup.faces (rw mesh.1 at mesh.0.mesh.manifold)) marks full
    (is_node soup.faces marks) arcs (rw (← c.layout-layout.ensures.layout) at laid.arcs) (inside at)
