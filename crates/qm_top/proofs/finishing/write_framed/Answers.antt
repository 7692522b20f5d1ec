use Rattle.qm_output.proofs.Prefixes.{rest_prefix, text_prefix, text_whole}
use Rattle.{std.proofs.Common.Err, std.proofs.Common.ap, std.proofs.Common.rules, error_laws.proofs.Errors.same_error}
use Rattle.qm_top.proofs.finishing.write_framed.Goals as goal

pub returns-in_err-put_framed-clause-prefix : goal.returns-in_err-put_framed-clause-prefix
returns-in_err-put_framed-clause-prefix g c is =
    let told = ap Err (same_error c.from_residual-in_err-put_framed.result c.in_err-put_framed.field-0.0 _
    c.from_residual-in_err-put_framed.ensures.1 is) in
    search (rules, text_prefix _ _ _ c.new-text.ensures.empty (c.in_err-put_framed.ensures.part told).1)

pub returns-clause-whole : goal.returns-clause-whole
returns-clause-whole g c = search (
  rules,
  text_whole _ _ _ _ c.new-text.ensures.empty
      c.in_ok-put_framed.ensures.whole.1 c.in_ok-flush.ensures.whole c.in_ok-flush.ensures.empty,
)

pub returns-in_err-flush-clause-prefix : goal.returns-in_err-flush-clause-prefix
returns-in_err-flush-clause-prefix g c is = search (
  rules,
  rest_prefix _ _ _ _ c.new-text.ensures.empty c.in_ok-put_framed.ensures.whole.1 c.in_err-flush.ensures.part,
)
