use Rattle.std.proofs.Common.{refl, ◌∙◌}
use Rattle.qm_top.proofs.Running.{done_run, refused_run, words_run}
use Rattle.qm_top.proofs.command.run.Goals as goal

pub returns-in-Err : goal.returns-in-Err
returns-in-Err g c = words_run _ _ _ _ c.in-Err.fail c.words_answer-answer.result _ c.words_answer-answer.ensures.answer
    c.in-Err.ensures.refuses c.error_line_of.ensures c.say.ensures refl refl refl

pub returns-in-Ok-run_command : goal.returns-in-Ok-run_command
returns-in-Ok-run_command g c = done_run _ _ _ _ c.in-Ok.command c.in-Ok.ensures.reads c.in-Ok.ensures.accepts
    c.in-Ok-run_command.ensures.unasked c.in-Ok-run_command.ensures.run.done refl

pub returns-in-Err-run_command : goal.returns-in-Err-run_command
returns-in-Err-run_command g c = refused_run _ _ _ _ c.in-Ok.command c.in-Ok.ensures.reads c.in-Ok.ensures.accepts
    c.in-Err-run_command.ensures.unasked c.in-Err-run_command.refusal c.into_reply-reply.result.answer
    c.deref.result.now _ c.into_reply-reply.ensures.answer (c.deref.ensures.value ∙ c.into_reply-reply.ensures.names)
    c.into_reply-reply.ensures.refusal c.into_reply-reply.ensures.accepted c.in-Err-run_command.ensures.run.refused
    c.in-Err-run_command.ensures.run.untouched c.error_line_of-in-Err-run_command.ensures
    c.say-in-Err-run_command.ensures
