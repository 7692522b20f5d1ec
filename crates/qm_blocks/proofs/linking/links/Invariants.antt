use Rattle.{std.proofs.Common.◌≡◌, std.proofs.Common.map, def_remesh.specs.NewPoints.lengths_in}
use Rattle.{std.specs.List.range_with_len, def_layout.specs.Layouts.layout_of, qm_blocks.specs.Spots.block_links}

abbrev pub invariant-loop-block : Rattle.qm_blocks.proofs.linking.links.Given.invariant-loop-block
invariant-loop-block l =
    map (λ block. block.items) l.links.items ≡ map (block_links (layout_of l.t) (lengths_in l.x) l.spotted.1.0.now)
    (range_with_len 0 l.block)
