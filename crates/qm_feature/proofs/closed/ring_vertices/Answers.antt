use Rattle.std.proofs.Common.{rules, ◌≡◌, false, length, replicate, ap, ◌∙◌, arith}
use Rattle.std.proofs.lemmas.List.{length-replicate, with_items_is}
use Rattle.{def_mesh.specs.Vertices.vertex_count, motion_laws.proofs.Marks.none_on}
use Rattle.{qm_feature.specs.declared.closed.TheConstants.NONE, qm_feature.proofs.Rings.rings_are}

pub returns-clause-each : Rattle.qm_feature.proofs.closed.ring_vertices.Goals.returns-clause-each
returns-clause-each c v l =
    let are = c.in_ok-table.ensures in
    let least : c.in_ok-least.least.items ≡ replicate (length c.in_ok-table.table.closed.items) NONE = search rules in
    let rings : c.in_ok-rings.rings.items ≡ replicate (vertex_count c.args.mesh.now) false = search rules in
    let wholes = rw (
      c.deref-2.ensures.value,
      c.deref_mut.ensures.value,
      c.in_ok-whole.ensures.items,
      c.deref.ensures.value,
      are.run_long,
    ) at c.drop_unmarked.ensures in
    let leasts = rw (c.deref-3.ensures.value, are.run_long) at c.lower.ensures in
    rw (
      with_items_is c.in_ok-rings.rings c.mark_rings.new.rings (c.mark_rings.auto.rings ∙ c.deref_mut-3.ensures.len),
      c.mark_rings.ensures v,
      c.deref_mut-3.ensures.value ∙ rings,
      none_on (vertex_count c.args.mesh.now) v,
      c.deref-4.ensures.value,
      c.deref-5.ensures.value,
      with_items_is c.in_ok-whole.whole c.drop_unmarked.new.whole
          (c.drop_unmarked.auto.whole ∙ c.deref_mut.ensures.len),
      c.deref-6.ensures.value,
      with_items_is c.in_ok-least.least c.lower.new.least (c.lower.auto.least ∙ c.deref_mut-2.ensures.len),
    ) (rings_are c.faces-known.ensures.mesh.manifold are wholes leasts (c.lower.auto.least
    ∙ (ap length (c.deref_mut-2.ensures.value ∙ least)
    ∙ length-replicate (length c.in_ok-table.table.closed.items) NONE))
    (omega (arith, c.vertices.type_inv, c.vertices.ensures.value)) v)
