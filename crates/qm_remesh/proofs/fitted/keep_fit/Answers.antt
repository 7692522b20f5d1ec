use Rattle.{def_fit.specs.Aims.aimed, def_metric.specs.declared.fail.SizeFail.TheVariants.Layout}
use Rattle.{error_laws.proofs.Errors.handed, qm_remesh.proofs.Leading.no_mesh}
use Rattle.qm_remesh.proofs.fitted.keep_fit.Goals as goal

-- Where floors rise.
pub returns-in_err-kept-clause-refused : goal.returns-in_err-kept-clause-refused
returns-in_err-kept-clause-refused c =
    let wish = aimed c.args.fit.now.aim c.args.cut.now.soup c.args.wishes.now in
    handed _ _ (Layout c.in_err-kept.field-0.0) c.from_residual-in_err-kept.ensures.1 (no_mesh c.args.fit.now.aim wish
    _ _ _ c.in_err-kept.field-0.0 c.in_ok-net.ensures.near
    (rw c.if-fit.true (c.in_err-kept.ensures.refused wish c.in_ok-net.ensures.net)))

pub returns-then-fit-clause-kept : goal.returns-then-fit-clause-kept
returns-then-fit-clause-kept c = rw c.if-fit.true (c.in_ok-kept.ensures.kept
    (aimed c.args.fit.now.aim c.args.cut.now.soup c.args.wishes.now) c.in_ok-net.ensures.net)

-- Where they do not.
pub returns-in_err-kept-2-clause-refused : goal.returns-in_err-kept-2-clause-refused
returns-in_err-kept-2-clause-refused c =
    let wish = aimed c.args.fit.now.aim c.args.cut.now.soup c.args.wishes.now in
    handed _ _ (Layout c.in_err-kept-2.field-0.0) c.from_residual-in_err-kept-2.ensures.1 (no_mesh c.args.fit.now.aim
    wish _ _ _ c.in_err-kept-2.field-0.0 c.in_ok-net.ensures.near (rw (c.if-fit.false, ← c.fit_settings.ensures)
    (c.in_err-kept-2.ensures.refused wish (rw c.fit_settings.ensures c.in_ok-net.ensures.net))))

pub returns-clause-kept : goal.returns-clause-kept
returns-clause-kept c = rw (c.if-fit.false, ← c.fit_settings.ensures) (c.in_ok-kept-2.ensures.kept
    (aimed c.args.fit.now.aim c.args.cut.now.soup c.args.wishes.now)
    (rw c.fit_settings.ensures c.in_ok-net.ensures.net))
