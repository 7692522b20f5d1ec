use Rattle.std.proofs.{Common.◌≡◌, Common.length, Common.ap, Common.◌∙◌, Common.arith, lemmas.List.length-map}
use Rattle.def_layout.specs.{Arcs.path, Layouts.layout_of, Layouts.Layout}
use Rattle.{def_remesh.specs.CutSoups.CutSoup, qm_check.proofs.pair.told_of.Goals.After-len}
use Rattle.qm_check.proofs.pair.told_of.Goals as goal

arcs_are : (c : After-len) → c.len.result ≡ length c.args.finished.now.new.layout.arcs
arcs_are c =
    let there : length (layout_of c.layout-layout.result.now).arcs ≡ length c.args.finished.now.new.layout.arcs =
    ap (λ (p : Layout). length p.arcs)
    (c.layout-layout.ensures.layout ∙ ap (λ (cut : CutSoup). cut.layout) c.cut.ensures) in
    omega (arith, c.len.ensures, length-map c.layout-layout.result.now.arcs.items path, there)

pub overflow_cast-result : goal.overflow_cast-result
overflow_cast-result c = omega (arith, arcs_are (goal.at.overflow_cast-result c).After-len, c.requires)

pub returns-clause-arcs : goal.returns-clause-arcs
returns-clause-arcs c = arcs_are (goal.at.returns-clause-arcs c).After-len
