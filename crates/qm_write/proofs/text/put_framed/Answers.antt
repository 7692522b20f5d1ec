use Rattle.std.proofs.Common.{◌≡◌, sym, ◌∙◌, ap, subst}
use Rattle.def_certtext.specs.CertLines.{certificates_of, used, Lists}
use Rattle.remesh_laws.proofs.ReadAgain.{kept_by, kept_writable}
use Rattle.{def_remesh.specs.Tasks.given_floors, qm_write.proofs.Frames.pieces_are, qm_write.proofs.Frames.with_lengths}
use Rattle.qm_write.proofs.text.put_framed.Goals as goal

pub certs_text-requires : goal.certs_text-requires
certs_text-requires g c =
    let layout = c.args.cut.layout in
    let terms = c.args.framed.remesh.terms in
    let floors = given_floors terms.settings in
    let certificates = certificates_of c.args.framed.remesh.certs in
    kept_writable c.requires.kept.0 layout terms.settings terms.rising certificates floors
    c.layout-layout.ensures.laid.0
    (kept_by layout floors terms.rising certificates (λ floors cert is. is.lengths) c.requires.kept.1.kept)

pub new-requires-clause-lengths : goal.new-requires-clause-lengths
new-requires-clause-lengths g c =
    c.requires.kept.1.lengths ∙ sym (c.deref.ensures.value ∙ ap (λ (lists : Lists). lists.x) c.used_cert.ensures)

pub returns-clause-whole : goal.returns-clause-whole
returns-clause-whole g c =
    let lengths : c.deref.result.now ≡ (used (certificates_of c.args.framed.remesh.certs)).x = c.deref.ensures.value
    ∙ ap (λ (lists : Lists). lists.x) c.used_cert.ensures in
    subst (g.T.Output.takes c.args.out.now c.put_parts.new.out) (pieces_are c.args.framed.remesh.terms.rising _ _ _
    (certificates_of c.args.framed.remesh.certs) _ _ _ _ _ c.in_ok-new.ensures lengths c.in_ok-certificates.ensures)
    c.in_ok-put_parts.ensures.whole

pub returns-in_err-put_parts-clause-part : goal.returns-in_err-put_parts-clause-part
returns-in_err-put_parts-clause-part g c is =
    let lengths : c.deref.result.now ≡ (used (certificates_of c.args.framed.remesh.certs)).x = c.deref.ensures.value
    ∙ ap (λ (lists : Lists). lists.x) c.used_cert.ensures in
    subst (g.T.Output.stops c.args.out.now c.put_parts.new.out) (pieces_are c.args.framed.remesh.terms.rising _ _ _
    (certificates_of c.args.framed.remesh.certs) _ _ _ _ _ c.in_ok-new.ensures lengths c.in_ok-certificates.ensures)
    c.in_err-put_parts.ensures.part

pub returns-clause-new : goal.returns-clause-new
returns-clause-new g c =
    let lengths : c.deref.result.now ≡ (used (certificates_of c.args.framed.remesh.certs)).x = c.deref.ensures.value
    ∙ ap (λ (lists : Lists). lists.x) c.used_cert.ensures in
    c.in_ok-new.ensures ∙ ap (with_lengths c.args.cut.soup c.args.cut.layout c.args.framed.shares) (lengths
    ∙ sym c.requires.kept.1.lengths)
