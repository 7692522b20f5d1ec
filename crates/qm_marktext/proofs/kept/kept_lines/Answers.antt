use Rattle.std.proofs.Common.{◌≡◌, ◌<◌, ◌^◌, ℕ, List, length, sym, subst, ap, ◌∙◌, arith}
use Rattle.std.proofs.lemmas.List.{length-map}
use Rattle.def_certtext.specs.CertLines.{certificates_of, used, Lists}
use Rattle.def_layout.specs.{Arcs.path, Layouts.gluing_of, Layouts.layout_of, Layouts.Layout}
use Rattle.{std.specs.Prelude.IfOk, def_marks.specs.MarkedText.marked_text, def_remesh.specs.NewPoints.lengths_in}
use Rattle.{def_written.specs.Numbers.vertices, qm_marktext.proofs.kept.kept_lines.Goals.After-deref}
use Rattle.qm_marktext.proofs.kept.kept_lines.Goals as goal

-- The lengths are those of the certificate that is used, and those that are numbered.
used_are : (c : After-deref) → c.deref.result.now ≡ (used (certificates_of c.args.remesh.now.certs)).x
used_are c = c.deref.ensures.value ∙ ap (λ (lists : Lists). lists.x) c.used_cert.ensures

numbered : (c : After-deref) → c.deref.result.now ≡ c.args.remesh.now.numbering.lengths.items
numbered c = used_are c ∙ sym c.requires.1.lengths

pub marked_lines-requires-clause-long : goal.marked_lines-requires-clause-long
marked_lines-requires-clause-long c = ap length (numbered c) ∙ c.requires.1.numbering.long ∙ ap
    (λ (p : Layout). length p.arcs) (sym c.layout.ensures.layout) ∙ length-map c.layout.result.now.arcs.items path

pub marked_lines-requires-clause-some : goal.marked_lines-requires-clause-some
marked_lines-requires-clause-some c a low = subst (λ (xs : List ℕ). 0 < lengths_in xs a) (sym (numbered c))
    (c.requires.1.numbering.lengths.some a (omega (arith, low, ap length (numbered c), c.requires.1.numbering.long)))

pub marked_lines-requires-clause-few : goal.marked_lines-requires-clause-few
marked_lines-requires-clause-few c = subst (λ (n : ℕ). n < 2 ^ 32)
    (λ i. vertices (gluing_of (sym c.layout.ensures.layout i)) (lengths_in (sym (numbered c) i)))
    (omega (arith, c.vertices-count.ensures c.args.cut.now.layout c.requires.1.numbering, c.vertices-count.type_inv))

pub returns : goal.returns
returns c = subst (λ (p : Layout). IfOk c.marked_lines.result (λ text. text.items ≡ marked_text c.args.marks.now p
    (lengths_in (used (certificates_of c.args.remesh.now.certs)).x))) c.layout.ensures.layout
    (subst (λ (xs : List ℕ). IfOk c.marked_lines.result (λ text. text.items ≡ marked_text c.args.marks.now
    (layout_of c.layout.result.now) (lengths_in xs))) (used_are (goal.at.returns c).After-deref) c.marked_lines.ensures)
