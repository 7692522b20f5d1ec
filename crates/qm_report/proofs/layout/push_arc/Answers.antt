use Rattle.std.proofs.Common.{◌≡◌, ◌+◌, length, ap, ◌∙◌, arith, get_or}
use Rattle.{std.proofs.lemmas.List.get_or_default, def_layout.specs.Layouts.vertex_at, def_layout.specs.Layouts.Layout}
use Rattle.{std.specs.Prelude.option_copied}
use Rattle.{def_cuttext.specs.LayoutText.place_in_file, qm_report.proofs.layout.push_arc.Goals.After-index-arc}
use Rattle.qm_report.proofs.Layouts.{along_numbers, arc_is, arc_written, line_behind, IsArc}
use Rattle.qm_report.proofs.layout.push_arc.Goals as goal

-- The arc that is read is that of the layout.
arc_of : (c : After-index-arc) → IsArc c.args.cut.now.soup.faces c.args.cut.now.layout c.args.a c.index-arc.result.now
arc_of c = arc_is c.layout-t.result.now c.args.cut.now.soup.faces c.args.a c.layout-t.ensures.layout
    c.layout-t.ensures.laid c.requires c.index-arc.ensures

pub push_along-requires : goal.push_along-requires
push_along-requires c = rw c.deref.ensures.value (arc_of (goal.at.push_along-requires c).After-index-arc).along

pub index-requires : goal.index-requires
index-requires c =
    let last = (arc_of (goal.at.index-requires c).After-index-arc).last in
    omega (arith, last, ap (λ (p : Layout). length p.nodes) c.layout-t.ensures.layout, c.layout-t.result.now.nodes.ok.0)

pub returns : goal.returns
returns c =
    let cut = c.args.cut.now in
    let arc = c.index-arc.result.now in
    let is = arc_of (goal.at.returns c).After-index-arc in
    let vertex : c.index.result.now ≡ vertex_at cut.layout arc.last =
    c.index.ensures ∙ ap (λ (p : Layout). get_or p.nodes arc.last c.index.result.now) c.layout-t.ensures.layout
    ∙ get_or_default cut.layout.nodes arc.last c.index.result.now 0 is.last in
    let last : c.from.result ≡ place_in_file cut.soup.names (vertex_at cut.layout arc.last) =
    c.from.ensures ∙ c.place_in_file-last.ensures ∙ (λ i. place_in_file (c.names.ensures.value i) (vertex i)) in
    let many : c.len.result ≡ length arc.darts.items = c.len.ensures ∙ arc.darts.ok.0 in
    let t0 = c.args.text.now.items in
    let line = line_behind c.arc_word-word.result.now (along_numbers cut.soup c.deref.result.now) (c.args.a + 1)
    c.len.result (c.from.result + 1) t0 c.in_ok-extend_from_slice.ensures.items c.in_ok-push_numbers.ensures
    c.in_ok-push_along.ensures c.in_ok-push_spaced.ensures c.in_ok-push.ensures.items in
    let written = arc_written cut.soup (option_copied c.args.kept) cut.layout c.args.a arc is.read in
    rw (line, c.arc_word-word.ensures, many, c.deref.ensures.value, last, written)
