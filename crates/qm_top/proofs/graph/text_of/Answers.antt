use Rattle.std.proofs.{Common.◌≡◌, lemmas.Result.IfOk-weaker}
use Rattle.{def_layout.specs.Layouts.layout_of, def_report.specs.GraphText.graph_text, def_run.specs.Graph.IsGraphText}

pub returns : Rattle.qm_top.proofs.graph.text_of.Goals.returns
returns c =
    let faces = c.args.mesh.now in
    let graph = c.in_ok-graph.graph in
    let layout = layout_of c.in_ok-layout.layout in
    IfOk-weaker c.graph_text.result (λ text. text.items ≡ graph_text faces graph.riders.items layout)
    (λ text. IsGraphText faces text.items) (λ text said. record {
      riders = graph.riders.items;
      rode = c.in_ok-graph.ensures.graph.riders;
      layout = layout;
      laid = rw c.in_ok-graph.ensures.graph.covered at c.in_ok-layout.ensures;
      said = said;
    })
    c.graph_text.ensures
