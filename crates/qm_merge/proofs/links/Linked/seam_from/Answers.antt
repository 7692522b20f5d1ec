use Rattle.std.proofs.{Common.sym, Common.◌∙◌, lemmas.Bool.false≢true, lemmas.Option.IfSome_then}
use Rattle.qm_merge.proofs.Linked.{none_then}
use Rattle.qm_merge.proofs.links.Linked.seam_from.Goals as goal

pub may_join-requires : goal.may_join-requires
may_join-requires c = c.is_corner.ensures.0 c.if-not-is_corner.false

pub glued_from-requires : goal.glued_from-requires
glued_from-requires c = record { corner = c.is_corner.ensures.0 c.if-not-is_corner.false }

pub returns-then-not-may_join-clause-none : goal.returns-then-not-may_join-clause-none
returns-then-not-may_join-clause-none c =
    λ t n arc. false≢true (sym c.if-not-may_join.true ∙ (c.may_join.ensures t n arc.glued).1 arc.apart)

pub returns-clause-found : goal.returns-clause-found
returns-clause-found c = IfSome_then c.glued_from.result c.glued_from.ensures.found (λ seam is. record {
  joinable = record {
    glued = is.glued;
    apart = (c.may_join.ensures seam.far seam.long is.glued).0 c.if-not-may_join.false;
  };
  named = is.named;
})

pub returns-clause-none : goal.returns-clause-none
returns-clause-none c = none_then c.glued_from.result c.glued_from.ensures.none (λ none t n arc. none t n arc.glued)
