use Rattle.{std.proofs.Common.ℤ, std.proofs.Common.ap, std.proofs.Common.◌∙◌, qm_match.proofs.Outcomes.small_dual}
use Rattle.{def_matching.specs.declared.weighted.Verdict.TheVariants.Yes, qm_dual.proofs.Verdicts.says_yes}
use Rattle.qm_match.proofs.search.Search.into_parts.Goals as goal

pub returns-clause-dual : goal.returns-clause-dual
returns-clause-dual c = small_dual c.requires.idle c.into_parts.ensures.dual c.into_parts.ensures.few

pub returns-clause-least : goal.returns-clause-least
returns-clause-least c =
    let small = c.requires.idle.made.small in
    says_yes _ _ (c.into_parts.ensures.yes c.args.g.now.graph small c.requires.idle.valid) ∙ ap (λ (x : ℤ). Yes x)
    (c.into_parts.ensures.perfect _ small c.requires.idle.valid c.requires.all).1
