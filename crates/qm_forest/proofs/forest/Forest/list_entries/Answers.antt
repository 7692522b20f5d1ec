use Rattle.std.proofs.Common.{◌≡◌, ◌∙◌, ap}
use Rattle.{def_forest.specs.Tables.ForestTables, qm_forest.proofs.Waitings.list_made}

pub returns-clause-entries : Rattle.qm_forest.proofs.forest.Forest.list_entries.Goals.returns-clause-entries
returns-clause-entries c =
    let up : c.self.inside.rings.up.items ≡ c.args.self.up = ap (λ (t : ForestTables). t.up) c.self.view_is in (
      c.name_sets.new.names.items,
      c.name_sets.ensures.named,
      list_made _ _ _ _ (c.deref.ensures.value ∙ up)
          (c.deref-3.ensures.value ∙ up) c.deref-2.ensures.value c.deref-4.ensures.value c.vertices-vertices.ensures
          c.add_vertex_entries.ensures.size c.add_vertex_entries.ensures.each c.add_set_entries.ensures.size
          c.add_set_entries.ensures.kept c.add_set_entries.ensures.each,
    )
