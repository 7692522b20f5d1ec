use Rattle.std.proofs.Common.{codes, sym, subst}
use Rattle.def_fit.specs.{Aims.IsAim, FitWords.IsAimWord, declared.fit.Aim.Aim}
use Rattle.{std.specs.Prelude.MatchOption, def_text.specs.Types.Word, qm_certtext.proofs.Cutting.stripped}

pub returns-in-Some-strip_prefix : Rattle.qm_fit.proofs.words.read_aim.Goals.returns-in-Some-strip_prefix
returns-in-Some-strip_prefix c = subst (λ (w : Word). MatchOption c.read_length.result
    ((aim : Aim) → IsAim aim → IsAimWord w aim → ⊥) (λ aim. IsAimWord w aim × IsAim aim))
    (sym (stripped (codes "edge:") c.args.word.now c.in-Some-strip_prefix.length.now
    c.in-Some-strip_prefix.ensures.cases.0 c.in-Some-strip_prefix.ensures.cases.1)) c.read_length.ensures
