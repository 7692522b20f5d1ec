use Rattle.std.proofs.{Common.rules, Common.◌≡◌, Common.false, Common.replicate, Common.◌∙◌, lemmas.Result.IfOk-weaker}
use Rattle.def_feature.specs.Marked.{IsMarkedGraph}
use Rattle.{def_cut.specs.Traced.IsGraphOf, def_mesh.specs.Darts.darts, feature_laws.proofs.First.same_graph}

pub returns-clause-graph : Rattle.qm_trace.proofs.tracing.trace.Goals.returns-clause-graph
returns-clause-graph c =
    let items : c.in_ok-marks.marks.items ≡ replicate (darts c.args.mesh.now) false = search rules in
    IfOk-weaker c.graph_from.result (IsMarkedGraph c.args.mesh.now c.deref-2.result.now) (IsGraphOf c.args.mesh.now)
    (λ graph g. same_graph _ _ (rw (← (c.deref-2.ensures.value ∙ items)) g)) c.graph_from.ensures.graph
