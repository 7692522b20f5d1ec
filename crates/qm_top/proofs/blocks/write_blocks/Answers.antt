use Rattle.std.proofs.{Common.rules, lemmas.Result.on_err_weaker}
use Rattle.qm_output.proofs.Prefixes.{of_error, rest_prefix, text_prefix, text_whole}
use Rattle.qm_top.proofs.blocks.write_blocks.Goals as goal

pub returns-in_err-put_blocks-clause-prefix : goal.returns-in_err-put_blocks-clause-prefix
returns-in_err-put_blocks-clause-prefix g c = of_error c.from_residual.result
    (search (rules, text_prefix _ _ _ c.new-text.ensures.empty c.in_err-put_blocks.ensures.part.1))

pub returns-clause-prefix : goal.returns-clause-prefix
returns-clause-prefix g c = on_err_weaker c.flush.result (λ broke. search (
  rules,
  rest_prefix _ _ _ _ c.new-text.ensures.empty c.in_ok-put_blocks.ensures.whole.1 broke,
)) c.flush.ensures.part

pub returns-clause-whole : goal.returns-clause-whole
returns-clause-whole g c = search (rules, text_whole)
