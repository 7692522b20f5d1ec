use Rattle.qm_certtext.proofs.Cutting.{behind_is, not_stripped, prefix_bare, stripped}
use Rattle.std.proofs.Common.{rules, ◌∙◌, ap, take, ℕ}
use Rattle.{qm_certtext.specs.Cuts.is_bare}
use Rattle.qm_certtext.proofs.head.cut_word.Goals as goal

pub returns-in-Some : goal.returns-in-Some
returns-in-Some c = (
  ap is_bare (c.split_at.ensures.front ∙ ap (λ (k : ℕ). take k c.args.text.now) c.find_byte.ensures.exact)
      ∙ prefix_bare c.args.text.now,
  search (rules, stripped),
)

pub returns-in-None : goal.returns-in-None
returns-in-None c word rest bare is = not_stripped c.args.mark.now c.split_at.result.1.now rest c.in-None.ensures.cases
    (behind_is c.args.text.now word c.args.mark.now rest c.split_at.result.1.now _ bare c.requires is
    c.find_byte.ensures.exact c.split_at.ensures.back)
