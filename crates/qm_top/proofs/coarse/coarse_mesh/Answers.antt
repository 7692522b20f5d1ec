use Rattle.def_run.specs.{Coarse.AsksToMerge, Heads.named_head, Heads.named_task}
use Rattle.{std.proofs.Common.codes, std.proofs.Common.refl, qm_top.proofs.Remeshed.asked_ends}

pub returns : Rattle.qm_top.proofs.coarse.coarse_mesh.Goals.returns
returns g c =
    let is = c.in_ok-cut.ensures.chosen in
    let head = named_head (codes "coarse") c.args.settings in
    asked_ends (AsksToMerge c.args.settings) c.in_ok-cut.ensures.soup (named_task (codes "coarse") c.args.settings is.0)
    (λ bytes. (is.0, is.1, refl)) c.finish.result _ (c.finish.ensures.done is.0 head is.2 c.in_ok-head.ensures)
    (c.finish.ensures.refused is.0 head is.2 c.in_ok-head.ensures)
