use Rattle.std.proofs.Common.{rules, ◌≡◌, refl, ap}
use Rattle.def_matching.specs.declared.weighted.WEdge.{WEdge}
use Rattle.qm_match.proofs.{Stepped.closed, Stepped.closed_set, Stepped.shrunk_stepped}
use Rattle.qm_match.proofs.search.Search.shrink.Goals.{After-outermost-set}
use Rattle.qm_match.proofs.search.Search.shrink.Goals as goal

set_is : (c : After-outermost-set) → c.outermost-set.result ≡ c.shrink.ensures.changed.set
set_is c = closed_set c.shrink.new.self c.args.e c.requires.way c.shrink.ensures.changed c.requires.edge
    (ap (λ (x : WEdge). x.u) c.edge.ensures.value) c.outermost-set.ensures.value

pub mend_parts-requires : goal.mend_parts-requires
mend_parts-requires c = search (rules, set_is, closed)

pub returns : goal.returns
returns c =
    let same = set_is (goal.at.returns c).After-outermost-set in
    let it = shrunk_stepped c.requires.way c.shrink.ensures.valid c.shrink.ensures.changed c.mend_parts.ensures.same
    c.mend_parts.ensures.room c.mend_parts.ensures.mended (rw same at c.mend_parts.ensures.right) refl (rw same refl) in
    record { way = it.way; goes_on = it.goes_on; fewer = it.fewer; first = it.first }
