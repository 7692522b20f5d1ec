use Rattle.std.proofs.Common.{rules, ◌*◌, length, map, ◌∙◌, ap, sym}
use Rattle.{std.proofs.lemmas.Result.IfOk-weaker, std.proofs.lemmas.Simd.map-map, qm_layoutnet.proofs.Whole.runs_short}
use Rattle.def_layout.specs.{Arcs.Path, Arcs.path, declared.tmesh.TArc.TArc}
use Rattle.qm_metric.proofs.start.old_start.Goals as goal

pub times_long-requires : goal.times_long-requires
times_long-requires c = search (rules, runs_short)

pub returns : goal.returns
returns c = IfOk-weaker c.times_long.result _ _
    (λ start is. is ∙ ap (map (λ (run : TArc). c.args.floor * length run.darts.items)) c.deref.ensures.value
    ∙ sym (map-map (λ (p : Path). c.args.floor * length p.darts) path c.args.t.now.arcs.items)) c.times_long.ensures
