use Rattle.std.proofs.Common.{◌≡◌, ◌<◌, ℕ, List, [], Vec, Global, length, ◌++◌, get_or, sym, ◌∙◌, ap, arith}
use Rattle.std.proofs.{lemmas.List.get_or-map, lemmas.Result.on_err_weaker, lemmas.Result.on_ok_weaker}
use Rattle.{def_blocks.specs.declared.link.Link.Link, qm_output.proofs.Prefixes.of_error}
use Rattle.{def_cuttext.specs.GridsText.arcs_around, def_cuttext.specs.GridsText.links_text, def_io.specs.Bytes.Bytes}
use Rattle.def_layout.specs.{Layouts.layout_of, declared.tmesh.Side.Side, declared.tmesh.TMesh.TMesh}
use Rattle.def_remesh.specs.{CutSoups.CutSoup, Placings.IsMeshLayout}
use Rattle.qm_blocktext.specs.{Gridded.arcs_of, Gridded.links_in, Gridded.points_in, declared.blocks.Blocks.Blocks}
use Rattle.qm_blocktext.proofs.Rounds.{arcs_round, sides_low}
use Rattle.qm_blocktext.proofs.text.put_block.Goals as goal

-- The lines of its links, and those of its points before them.
abbrev link_lines : (blocks : Blocks) (block : ℕ) → Bytes
link_lines blocks block =
    links_text blocks.chosen (get_or (links_in blocks) block []) (arcs_around blocks.points.layout block)

abbrev rest_of : (blocks : Blocks) (block : ℕ) → Bytes
rest_of blocks block = points_in blocks.points block ++ link_lines blocks block

pub returns-in_err-put_size-clause-part : goal.returns-in_err-put_size-clause-part
returns-in_err-put_size-clause-part g c = of_error c.from_residual.result
    (g.met.T.Output.stops_before _ _ _ (rest_of c.args.blocks.now c.args.block) c.in_err-put_size.ensures.part)

pub returns-in_err-put_points-clause-part : goal.returns-in_err-put_points-clause-part
returns-in_err-put_points-clause-part g c =
    let laws = g.met.T.Output in
    let blocks = c.args.blocks.now in
    of_error c.from_residual-in_err-put_points.result
    (laws.stops_later _ _ _ _ (rest_of blocks c.args.block) c.in_ok-put_size.ensures.whole
    (laws.stops_before _ _ _ (link_lines blocks c.args.block) c.in_err-put_points.ensures.part))

-- A block has its own links, and the arcs around it.
own : (blocks : Blocks) (block : ℕ) {all : List (Vec Link Global)} (links : Vec Link Global)
    → block < length blocks.links.items
    → all ≡ blocks.links.items → links ≡ get_or all block links → links.items ≡ get_or (links_in blocks) block []
own blocks block links low same is = ap (λ (v : Vec Link Global). v.items) (rw same at is)
    ∙ sym (get_or-map (λ (v : Vec Link Global). v.items) blocks.links.items block links [] low)

around : (blocks : Blocks) (block : ℕ) {cut : CutSoup} (t : TMesh) (four : List Side)
    → block < length blocks.links.items → cut ≡ record { soup = blocks.points.soup; layout = blocks.points.layout }
    → layout_of t ≡ cut.layout → IsMeshLayout cut.soup.faces cut.layout → four ≡ get_or t.sides.items block four
    → arcs_of four ≡ arcs_around blocks.points.layout block
around blocks block {cut} t four low of same laid read = arcs_round t cut.layout same laid.0 block
    (omega (arith, low, blocks.linked, ap (λ (k : CutSoup). length k.layout.patches) of)) four read ∙ ap
    (λ (k : CutSoup). arcs_around k.layout block) of

pub index-requires : goal.index-requires
index-requires g c =
    let blocks = c.args.blocks.now in
    let t = c.layout-layout.result.now in
    let low = sides_low t c.cut.result.now.layout c.layout-layout.ensures.layout c.layout-layout.ensures.laid.0
    c.args.block
    (omega (arith, c.requires, blocks.linked, ap (λ (k : CutSoup). length k.layout.patches) c.cut.ensures)) in
    omega (arith, low, t.sides.ok.0)

pub returns : goal.returns
returns g c =
    let laws = g.met.T.Output in
    let blocks = c.args.blocks.now in
    let links = c.deref.ensures.value ∙ own blocks c.args.block c.index-links-block.result c.requires
    c.as_slice-links.ensures.value c.index-links-block.is in
    let arcs = around blocks c.args.block c.layout-layout.result.now c.index.result.now c.requires
    c.cut.ensures c.layout-layout.ensures.layout c.layout-layout.ensures.laid c.index.ensures in
    record {
      whole = on_ok_weaker c.put_links.result (λ last. laws.takes_more _ _ _ _ (rest_of blocks c.args.block)
          c.in_ok-put_size.ensures.whole (laws.takes_more _ _ _ _ (link_lines blocks c.args.block)
          c.in_ok-put_points.ensures.whole last)) (rw (links, arcs) at c.put_links.ensures.whole);
      part = on_err_weaker c.put_links.result (λ last. laws.stops_later _ _ _ _ (rest_of blocks c.args.block)
          c.in_ok-put_size.ensures.whole (laws.stops_later _ _ _ _ (link_lines blocks c.args.block)
          c.in_ok-put_points.ensures.whole last)) (rw (links, arcs) at c.put_links.ensures.part);
    }
