use Rattle.std.proofs.Common.{◌≡◌, [], ◌∷◌, length, map, ap, sym, ◌∙◌, subst, arith}
use Rattle.std.proofs.lemmas.List.{length-map, map-append}
use Rattle.def_layout.specs.{Arcs.path, Gluings.IsSlot, Layouts.gluing_of, Layouts.layout_of}
use Rattle.qm_blocks.specs.Spots.{block_links, HasSpots}
use Rattle.qm_blocks.proofs.{Tables.are_links, Tables.list_more, Measures.measured_of}
use Rattle.{std.specs.List.range_with_len, def_cut.specs.Grids.rectangle, def_remesh.specs.NewPoints.lengths_in}
use Rattle.{def_blocks.specs.Links.AreLinks, embedding_laws.proofs.Bounds.laid_of}
use Rattle.qm_blocks.proofs.linking.links.Goals as goal

pub invariant_of-measured : goal.invariant_of-measured
invariant_of-measured c = record {
  measured = measured_of (layout_of c.args.t.now) c.args.x.now c.requires.layout
      (c.requires.long ∙ sym (length-map c.args.t.now.arcs.items path)) c.requires.bounded;
}

pub loop-block-preserved : goal.loop-block-preserved
loop-block-preserved c =
    let f = block_links (layout_of c.args.t.now) (lengths_in c.args.x.now) c.deref.result.now in
    list_more f c.loop-block.block [] _ _ c.in_ok-here.here.items c.loop-block.invariant
    (ap (map (λ block. block.items)) c.in_ok-push.ensures.items
    ∙ map-append (λ block. block.items) c.loop-block.links.items (c.in_ok-here.here ∷ [])) c.in_ok-here.ensures

pub returns : goal.returns
returns c =
    let t = layout_of c.args.t.now in
    let x = lengths_in c.args.x.now in
    let table = c.deref.result.now in
    let all : c.loop-block.block ≡ length t.patches = omega (arith, length-map c.args.t.now.patches.items rectangle) in
    subst (AreLinks (gluing_of t) x)
    (sym (c.loop-block.invariant ∙ ap (λ n. map (block_links t x table) (range_with_len 0 n)) all))
    (are_links t x table (laid_of t c.requires.layout)
    (subst (HasSpots (gluing_of t) x (IsSlot (gluing_of t))) (sym c.deref.ensures.value) c.in_ok-table.ensures))
