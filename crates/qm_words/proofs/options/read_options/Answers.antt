use Rattle.std.proofs.{Common.map, Common.string_bytes, Common.sym, Common.◌∙◌, lemmas.Bool.true≢false}
use Rattle.qm_words.proofs.Level.{app_all, app_more, line_taken, refused, texts, took}
use Rattle.qm_words.proofs.options.read_options.Goals as goal

pub returns-then-has_end-clause-refuses : goal.returns-then-has_end-clause-refuses
returns-then-has_end-clause-refuses c usage uses line plain =
    true≢false (c.if-has_end.ensures ∙ (line_taken _ _ uses c.requires line plain).0)

pub loop-name-preserved : goal.loop-name-preserved
loop-name-preserved c = app_more c.args.names.now c.loop-name.name-index _ _ _ c.loop-name-test.true
    c.loop-name.invariant c.in_ok-command.ensures.shape

pub returns-in-Ok-clause-reads : goal.returns-in-Ok-clause-reads
returns-in-Ok-clause-reads c = took (texts c.args.names.now) (map string_bytes c.args.words.now) _ c.in-Ok.matches
    (app_all c.args.names.now c.loop-name.name-index _ c.loop-name-test.false c.loop-name.invariant)
    (sym c.if-has_end.ensures) c.in-Ok.ensures.kinds c.in-Ok.ensures.matches

pub returns-in-Err-clause-refuses : goal.returns-in-Err-clause-refuses
returns-in-Err-clause-refuses c = refused (texts c.args.names.now) (map string_bytes c.args.words.now) _ c.in-Err.error
    c.cause.result (app_all c.args.names.now c.loop-name.name-index _ c.loop-name-test.false c.loop-name.invariant)
    c.requires c.in-Err.ensures.kinds c.cause.ensures.memory
