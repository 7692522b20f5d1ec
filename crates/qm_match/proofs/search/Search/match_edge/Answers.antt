use Rattle.std.proofs.Common.{refl, ◌∙◌, ap}
use Rattle.{def_matching.specs.declared.weighted.WEdge.WEdge, qm_match.proofs.Stepped.idle_after}
use Rattle.def_forest.specs.{Forests.Forest, Steps.rooted, Tables.forest_of, Tables.edge_kind}
use Rattle.qm_match.proofs.Outcomes.{free_augments}
use Rattle.qm_match.proofs.search.Search.match_edge.Goals as goal

pub augment-requires : goal.augment-requires
augment-requires c = assumption (
  c.root.ensures.valid c.args.g.now.graph c.requires.idle.made.small.lawful c.requires.idle.valid,
  ap (λ (f : Forest). edge_kind c.args.g.now.graph f c.args.e) (c.root.ensures.changed
      ∙ ap (λ (x : WEdge). rooted (forest_of c.args.self.now.forest) ((forest_of c.args.self.now.forest).out x.u))
      c.edge.ensures.value) ∙ free_augments (rw c.requires.idle.no_tree at c.requires.idle.valid.valid) c.requires.free,
)

pub returns : goal.returns
returns c = let idle = c.requires.idle in
    record {
      first = refl;
      idle = idle_after idle.made idle.few idle.range c.augment.ensures.valid c.augment.ensures.root
          c.augment.ensures.changed.2 (ap (λ (f : Forest). f.size) c.root.ensures.changed)
          (λ b. ap (λ (f : Forest). f.weight b) c.root.ensures.changed);
    }
