use Rattle.std.proofs.Common.{rules, length, ◌∙◌, ap}
use Rattle.qm_forest.proofs.{Inners.CanOpen, Inners.partable, Expandings.expanded}
use Rattle.qm_forest.proofs.Expandings.{Expanding, matched, mate_low, link_low, vertex_low, places_low, reached3, tops3}
use Rattle.qm_forest.proofs.forest.Forest.expand.Goals.{After-parts-many, After-outermost-last}
use Rattle.qm_forest.proofs.forest.Forest.expand.Goals as goal

ready : (c : After-parts-many) → CanOpen c.args.g.now.graph c.args.self.now c.args.b
ready c = assumption

opened : (c : After-outermost-last) → Expanding c.args.g.now.graph c.args.self.now c.open.new.self c.args.b
    c.mate_dart-mate.result c.link-link.result c.outermost-first.result c.outermost-last.result c.parts-many.result
opened c = search rules

pub mate_dart-mate-requires : goal.mate_dart-mate-requires
mate_dart-mate-requires c = matched (ready (goal.at.mate_dart-mate-requires c).After-parts-many)

pub open-requires-clause-partable : goal.open-requires-clause-partable
open-requires-clause-partable c = partable (ready (goal.at.open-requires-clause-partable c).After-parts-many)

pub near-requires : goal.near-requires
near-requires c = mate_low (ready (goal.at.near-requires c).After-parts-many) c.mate_dart-mate.ensures

pub outermost-first-requires : goal.outermost-first-requires
outermost-first-requires c =
    let it = ready (goal.at.outermost-first-requires c).After-parts-many in
    vertex_low it c.open.ensures _ _ c.near.ensures (mate_low it c.mate_dart-mate.ensures)

pub near-requires-2 : goal.near-requires-2
near-requires-2 c = link_low (ready (goal.at.near-requires-2 c).After-parts-many) c.link-link.ensures

pub outermost-last-requires : goal.outermost-last-requires
outermost-last-requires c =
    let it = ready (goal.at.outermost-last-requires c).After-parts-many in
    vertex_low it c.open.ensures c.near-2.result c.link-link.result c.near-2.ensures (link_low it c.link-link.ensures)

pub match_parts-requires-clause-low : goal.match_parts-requires-clause-low
match_parts-requires-clause-low c = places_low (opened (goal.at.match_parts-requires-clause-low c).After-outermost-last)

pub course-course-requires : goal.course-course-requires
course-course-requires c = reached3 (opened (goal.at.course-course-requires c).After-outermost-last)
    c.match_parts.ensures.seen c.match_parts.ensures.same

pub hang_parts-requires : goal.hang_parts-requires
hang_parts-requires c = tops3 (opened (goal.at.hang_parts-requires c).After-outermost-last)
    c.match_parts.ensures.seen c.match_parts.ensures.same c.course-course.ensures

pub returns : goal.returns
returns c =
    let made = c.match_parts.ensures in
    let hung = c.hang_parts.ensures in
    let linked = c.set_link.ensures in
    let it = expanded (opened (goal.at.returns c).After-outermost-last) made.seen made.same c.course-course.ensures
    c.hang_parts.new.self hung.seen c.set_link.new.self linked.seen (ap length (linked.same.hand
    ∙ (hung.same.hand ∙ made.same.hand))) (linked.same.root ∙ (hung.same.root ∙ (made.same.root
    ∙ (c.open.ensures.root ∙ c.open.ensures.same.root)))) (linked.same.fixed ∙ (hung.same.fixed ∙ made.same.fixed)) in
    record { changed = it.0; root = it.1; valid = it.2 }
