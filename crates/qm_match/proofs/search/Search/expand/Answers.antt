use Rattle.qm_match.{specs.Needs.MayOpen, proofs.Stepped.AreParts, proofs.Stepped.opened_may}
use Rattle.qm_match.proofs.{Stepped.opened_stepped, Stepped.opens, search.Search.expand.Goals.After-list_parts}
use Rattle.qm_match.proofs.search.Search.expand.Goals as goal

pub list_parts-requires : goal.list_parts-requires
list_parts-requires c = opens c.requires

may : (c : After-list_parts) → MayOpen c.args.g.now.graph c.list_parts.new.self c.args.b
may c = rw c.list_parts.ensures.same (assumption (c.list_parts.ensures.room, c.requires))

parts : (c : After-list_parts) → AreParts c.list_parts.new.self.forest c.args.b c.list_parts.new.self.parts.items
parts c = rw c.list_parts.ensures.same (record {
  count = c.list_parts.ensures.count;
  each = λ k l. c.list_parts.ensures.each k (rw c.list_parts.ensures.count at l);
})

pub refresh_parts-requires : goal.refresh_parts-requires
refresh_parts-requires c = let steps = (goal.at.refresh_parts-requires c).After-list_parts in
    opened_may (may steps) c.expand.ensures.valid c.expand.ensures.changed (parts steps)

pub returns : goal.returns
returns c =
    let steps = (goal.at.returns c).After-list_parts in
    let it = opened_stepped (may steps) c.expand.ensures.valid c.expand.ensures.changed (parts steps)
    c.expand.ensures.root c.refresh_parts.ensures.refreshed c.refresh_parts.ensures.here in
    assumption (rw c.list_parts.ensures.same at it)
