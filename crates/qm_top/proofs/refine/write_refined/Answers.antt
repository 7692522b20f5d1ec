use Rattle.std.proofs.{Common.rules, lemmas.Result.on_err_weaker, lemmas.Result.on_ok_weaker}
use Rattle.qm_output.proofs.Prefixes.{of_error, rest_prefix, text_prefix, text_whole}
use Rattle.qm_top.proofs.Refusals.{on_ok_both}
use Rattle.qm_top.proofs.refine.write_refined.Goals as goal

pub returns-in_err-put_refined-clause-prefix : goal.returns-in_err-put_refined-clause-prefix
returns-in_err-put_refined-clause-prefix g c = of_error c.from_residual.result
    (search (rules, text_prefix _ _ _ c.new-text.ensures.empty c.in_err-put_refined.ensures.part.1))

pub returns-clause-prefix : goal.returns-clause-prefix
returns-clause-prefix g c = on_err_weaker c.flush.result (λ broke. search (
  rules,
  rest_prefix _ _ _ _ c.new-text.ensures.empty c.in_ok-put_refined.ensures.whole.1 broke,
)) c.flush.ensures.part

pub returns-clause-whole : goal.returns-clause-whole
returns-clause-whole g c = on_ok_weaker c.flush.result (λ both. search (
  rules,
  text_whole _ _ _ _ c.new-text.ensures.empty c.in_ok-put_refined.ensures.whole.1 both.0 both.1,
))
    (on_ok_both _ _ c.flush.result c.flush.ensures.whole c.flush.ensures.empty)
