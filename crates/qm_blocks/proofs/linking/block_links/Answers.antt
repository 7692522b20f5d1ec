use Rattle.std.proofs.Common.{◌≡◌, ◌++◌, [], refl, ◌∙◌, rules}
use Rattle.def_layout.specs.{Gluings.south, Gluings.east, Gluings.north, Gluings.west, Layouts.layout_of}
use Rattle.qm_blocks.proofs.Measures.{side_summed}
use Rattle.{def_remesh.specs.NewPoints.lengths_in, qm_blocks.specs.Spots.links_on}
use Rattle.qm_blocks.proofs.linking.block_links.Goals as goal

pub push_links-requires : goal.push_links-requires
push_links-requires c = side_summed c.args.spotted.now.measured c.args.block c.requires south c.side_of.ensures

pub push_links-requires-2 : goal.push_links-requires-2
push_links-requires-2 c = side_summed c.args.spotted.now.measured c.args.block c.requires east c.side_of-2.ensures

pub push_links-requires-3 : goal.push_links-requires-3
push_links-requires-3 c = side_summed c.args.spotted.now.measured c.args.block c.requires north c.side_of-3.ensures

pub push_links-requires-4 : goal.push_links-requires-4
push_links-requires-4 c = side_summed c.args.spotted.now.measured c.args.block c.requires west c.side_of-4.ensures

pub returns : goal.returns
returns c =
    let t = layout_of c.args.spotted.now.measured.t.now in
    let x = lengths_in c.args.spotted.now.measured.x.now in
    let table = c.args.spotted.now.table.now in
    let empty : c.new-links.result.items ≡ [] = search rules in
    c.in_ok-push_links-4.ensures ∙ (λ i. (c.in_ok-push_links-3.ensures ∙ (λ j. (c.in_ok-push_links-2.ensures
    ∙ (λ k. (c.in_ok-push_links.ensures ∙ (λ h. empty h ++ links_on table x (c.name_of.ensures south refl h)
    (c.side_of.ensures h))) k ++ links_on table x (c.name_of-2.ensures east refl k) (c.side_of-2.ensures k))) j ++
    links_on table x (c.name_of-3.ensures north refl j) (c.side_of-3.ensures j))) i ++ links_on table x
    (c.name_of-4.ensures west refl i) (c.side_of-4.ensures i))
