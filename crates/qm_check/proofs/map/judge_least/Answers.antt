use Rattle.std.proofs.{Common.rules, lemmas.Result.IfErr-weaker, lemmas.Result.IfOk-weaker}
use Rattle.qm_check.proofs.{Maps.ready_mesh, Maps.text_fails, Maps.unmade_fails, Tasks.found}
use Rattle.qm_check.proofs.map.judge_least.Goals as goal

pub returns-in_err-ready-clause-refused : goal.returns-in_err-ready-clause-refused
returns-in_err-ready-clause-refused c = search (rules, unmade_fails)

pub returns-clause-found : goal.returns-clause-found
returns-clause-found c command given finds =
    let for = rw c.old_text-front.ensures.front at (c.in_ok-ready.ensures.ready command
    (record { mark = rw c.head_line.ensures given.is; finds = finds })) in
    IfOk-weaker c.judge_text.result _ _ (λ finished by. found for.task (ready_mesh given for c.in_ok-ready.ensures.soup)
    for.only.asked for.holds by) (c.judge_text.ensures.finished for.task for.holds)

pub returns-clause-refused : goal.returns-clause-refused
returns-clause-refused c =
    let for = rw c.old_text-front.ensures.front at (c.in_ok-ready.ensures.ready c.requires.given.0
    (record { mark = rw c.head_line.ensures c.requires.given.1.is; finds = c.requires.given.2 })) in
    IfErr-weaker c.judge_text.result _ _ (text_fails c.requires.given.1 for c.in_ok-ready.ensures.soup)
    (c.judge_text.ensures.refused for.task for.holds)
