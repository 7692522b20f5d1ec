use Rattle.def_certtext.specs.{HeadLine.head_line, declared.certs.Rising.Rising}
use Rattle.{std.proofs.Common.ap, def_cut.specs.Traced.traced_marks, def_run.specs.Remesh.AsksToRemesh}
use Rattle.{qm_top.proofs.Remeshed.asked_ends, qm_top.specs.Finishing.headed_task}
use Rattle.qm_top.proofs.remesh.remesh_mesh.Goals as goal

pub returns : goal.returns
returns g c =
    let settings = c.args.asked.settings in
    let marks = traced_marks c.in_ok-cut.cut.soup.faces in
    let head = head_line settings c.args.asked.auto in
    asked_ends (AsksToRemesh settings c.args.asked.auto) c.in_ok-cut.ensures.soup
    (headed_task (record { settings = settings; rising = c.third_if.result }) marks head)
    (λ bytes. ap (λ (r : Rising). headed_task (record { settings = settings; rising = r }) marks head)
    c.third_if.ensures) c.finish.result _ (c.finish.ensures.done marks head c.in_ok-cut.ensures.traced
    c.in_ok-head.ensures) (c.finish.ensures.refused marks head c.in_ok-cut.ensures.traced c.in_ok-head.ensures)
