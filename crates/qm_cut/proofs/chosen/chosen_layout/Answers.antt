use Rattle.{std.proofs.Common.option_copied, patch_laws.proofs.Chosen.chosen_cut_law}

pub graph_layout-requires : Rattle.qm_cut.proofs.chosen.chosen_layout.Goals.graph_layout-requires
graph_layout-requires c = record {
  cut = chosen_cut_law c.args.mesh.now (option_copied c.args.kept) c.args.patches c.in_ok-graph.graph.covered.items
      c.faces-known.ensures.mesh.manifold c.requires c.in_ok-graph.ensures;
}
