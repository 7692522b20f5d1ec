use Rattle.qm_top.proofs.Refined.{all_refined, refine_fails}
use Rattle.{std.proofs.lemmas.Result.IfErr-weaker, qm_top.specs.Refining.FailsBy, qm_top.specs.Refining.FailsToRefine}
use Rattle.qm_top.proofs.refine.refined.Goals as goal

pub returns-clause-new : goal.returns-clause-new
returns-clause-new c = all_refined c.args.by c.in_ok-cut.cut c.refined_cut.result c.in_ok-cut.ensures.soup
    c.in_ok-cut.ensures.laid c.in_ok-cut.ensures.traced c.refined_cut.ensures.new c.refined_cut.ensures.few
    c.refined_cut.ensures.shape

pub returns-clause-refused : goal.returns-clause-refused
returns-clause-refused c = IfErr-weaker c.refined_cut.result (FailsBy c.args.by c.in_ok-cut.cut.layout)
    (FailsToRefine c.args.by c.args.read) (λ fail why. refine_fails c.args.by c.in_ok-cut.cut fail
    c.in_ok-cut.ensures.soup c.in_ok-cut.ensures.traced why) c.refined_cut.ensures.refused
