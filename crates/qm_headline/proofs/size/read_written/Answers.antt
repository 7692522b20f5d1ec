use Rattle.std.proofs.{Common.refl, Common.ap, Common.sym, Common.subst, Common.◌∙◌, lemmas.Bool.false≢true}
use Rattle.def_text.specs.{Canonical.micro_text, Types.Word}
use Rattle.{def_fit.specs.FitWords.IsEdgeLength, qm_fit.proofs.Heads.written_edge, qm_headline.proofs.Sizes.read_is}
use Rattle.qm_headline.proofs.size.read_written.Goals as goal

pub returns-in_default : goal.returns-in_default
returns-in_default c edge low near is = c.in_default.ensures.none refl edge
    (subst (λ (w : Word). IsEdgeLength w edge) (sym is) (written_edge edge low near))

pub returns-else-is_micro_text : goal.returns-else-is_micro_text
returns-else-is_micro_text c edge low near is =
    let same = read_is c.args.word.now c.in-Some.edge edge c.in-Some.ensures.value.value near is in
    false≢true (c.if-is_micro_text.ensures.1 (is ∙ ap micro_text (sym same)))
