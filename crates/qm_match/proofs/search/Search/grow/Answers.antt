use Rattle.std.proofs.Common.{rules, ◌≡◌, ◌∙◌, ap}
use Rattle.def_forest.specs.{Darts.darts_of, Darts.far, Tables.forest_of, Tables.outer_dart}
use Rattle.qm_match.proofs.{Stepped.Growth, Stepped.growth_of, Stepped.grown_may, Stepped.grown_stepped}
use Rattle.qm_match.proofs.{Chains.may_later, Chains.refreshed_on, Chains.stays_fresh}
use Rattle.qm_match.proofs.search.Search.grow.Goals.{After-grow}
use Rattle.qm_match.proofs.search.Search.grow.Goals as goal

growth : (c : After-grow) → Growth c.args.g.now.graph c.args.self.now c.grow.new.self
    (outer_dart c.args.g.now.graph (forest_of c.args.self.now.forest) c.args.e) c.grow.ensures.changed.0
growth c = growth_of c.requires c.grow.ensures.valid c.grow.ensures.root c.grow.ensures.changed

-- The inner and the outer blossom that the tree got.
inner_is : (c : After-grow) → c.far_blossom-inner.result ≡ (forest_of c.args.self.now.forest).out
    (far (darts_of c.args.g.now.graph) (outer_dart c.args.g.now.graph (forest_of c.args.self.now.forest) c.args.e))
inner_is c = search rules

outer_is : (c : After-grow) → c.partner-outer.result ≡ (forest_of c.args.self.now.forest).out
    (far (darts_of c.args.g.now.graph) c.grow.ensures.changed.0)
outer_is c = c.partner-outer.ensures.value c.grow.ensures.changed.0
    (ap (forest_of c.args.self.now.forest).mate (inner_is c) ∙ c.grow.ensures.changed.1)

pub refresh-requires : goal.refresh-requires
refresh-requires c = let steps = (goal.at.refresh-requires c).After-grow in
    grown_may (growth steps) _ (growth steps).low (inner_is steps)

pub refresh-requires-2 : goal.refresh-requires-2
refresh-requires-2 c =
    let steps = (goal.at.refresh-requires-2 c).After-grow in
    may_later c.refresh.ensures.refreshed (grown_may (growth steps) _ (growth steps).low_mate (outer_is steps))

pub returns : goal.returns
returns c =
    let steps = (goal.at.returns c).After-grow in
    let it = grown_stepped (growth steps) (refreshed_on c.refresh.ensures.refreshed c.refresh-2.ensures.refreshed)
    (rw (inner_is steps) at (stays_fresh c.refresh-2.ensures.refreshed c.refresh.ensures.here))
    (rw (outer_is steps) at c.refresh-2.ensures.here) in
    assumption it
