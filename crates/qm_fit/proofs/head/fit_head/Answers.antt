use Rattle.std.proofs.Common.{◌++◌, ◌∷◌, [], codes, ap, ◌∙◌}
use Rattle.def_certtext.specs.Settings.{floor_text, weight_text}
use Rattle.{def_fit.specs.FitWords.aim_text, def_fit.specs.FitWords.spacing_word, def_text.specs.Types.Word}

pub returns : Rattle.qm_fit.proofs.head.fit_head.Goals.returns
returns c =
    let fit = c.args.fit.now in
    let first = c.in_ok-extend_from_slice.ensures.items ∙ ap (λ (t : Word). t ++ codes "#quadq 1 fit keep ")
    c.new-text.ensures.items in
    let keep = c.in_ok-extend_from_slice-2.ensures.items
    ∙ (λ i. first i ++ (c.as_bytes.ensures.value ∙ c.keep_word.ensures.word) i) in
    let second = c.in_ok-extend_from_slice-3.ensures.items ∙ ap (λ (t : Word). t ++ codes " patches ") keep in
    let cut = c.in_ok-extend_from_slice-4.ensures.items
    ∙ (λ i. second i ++ (c.as_bytes-2.ensures.value ∙ c.patches_word.ensures.word) i) in
    let third = c.in_ok-extend_from_slice-5.ensures.items ∙ ap (λ (t : Word). t ++ codes " aim ") cut in
    let aim = c.in_ok-push_aim.ensures ∙ ap (λ (t : Word). t ++ aim_text fit.aim) third in
    let least = c.in_ok-push_least.ensures ∙ ap (λ (t : Word). t ++ codes " floor " ++ floor_text fit.floor fit.auto ++
    codes " weight " ++ weight_text fit.weight) aim in
    let spacing = c.in_ok-push_spacing.ensures
    ∙ ap (λ (t : Word). t ++ codes " spacing " ++ spacing_word fit.spacing) least in
    c.in_ok-push.ensures.items ∙ ap (λ (t : Word). t ++ 10 ∷ []) spacing
