use Rattle.std.proofs.Common.{arith, rules, ◌∙◌, sym, ap}
use Rattle.qm_match.proofs.Stepped.{begun_seeking, begun_way, made_after, may_vertex}
use Rattle.qm_match.proofs.{search.Search.begin.Goals.After-root}
use Rattle.{def_forest.specs.Forests.Forest, def_forest.specs.Tables.IsValidFor}
use Rattle.qm_match.proofs.search.Search.begin.Goals as goal

valid : (c : After-root) → IsValidFor c.args.g.now.graph c.root.new.self
valid c = c.root.ensures.valid c.args.g.now.graph c.requires.idle.made.small.lawful c.requires.idle.valid

pub refresh-requires : goal.refresh-requires
refresh-requires c = may_vertex _ (search (rules, made_after)) (valid (goal.at.refresh-requires c).After-root)
    c.requires.vertex (ap (λ (f : Forest). f.out c.args.v) c.root.ensures.changed ∙ sym c.outermost-b.ensures.value)

pub returns : goal.returns
returns c =
    let is = c.refresh.ensures.refreshed in
    let right = valid (goal.at.returns c).After-root in
    grind (arith, begun_way c.args.v c.requires.idle right is, begun_seeking c.args.v c.requires.idle right is)
