use Rattle.std.proofs.{Common.arith, Common.sym, Common.subst, Common.inl, Common.inr, Common.refl, lemmas.List.take_at}
use Rattle.{std.proofs.lemmas.Bool.cases_order, qm_mesh.proofs.Vertices.end_low, qm_mesh.specs.Pairs.ArePartners}
use Rattle.qm_mesh.proofs.twins.pair.Goals as goal

pub edge_twice-requires-clause-first : goal.edge_twice-requires-clause-first
edge_twice-requires-clause-first c =
    let within = c.args.quads.now.are.within in
    let (is, none) = rw c.in-Some.is at c.pair_all-twice.ensures.first in
    record {
      is_dart = is.is_dart;
      before = is.before;
      same = is.same;
      least = λ j k less below same.
          none _ (omega (arith, within j (omega (arith, is.is_dart)))) j k less below refl same;
    }

pub returns-clause-ok : goal.returns-clause-ok
returns-clause-ok c =
    let quads = c.args.quads.now in
    let a = c.pair_all-twice.ensures in
    subst (λ twins. ArePartners quads.faces.now twins)
    (sym (take_at c.pair_all-twice.new.twins _ _ (omega (arith, a.long))))
    (record { long = a.long; each = λ e l. a.each e l (end_low quads.faces.now _ _ quads.are.within l) })

pub returns-clause-once : goal.returns-clause-once
returns-clause-once c d e low high same =
    let within = c.args.quads.now.are.within in
    let none = rw c.in-None.is at c.pair_all-twice.ensures.first in
    elim (cases_order d e) [
      | inl s ↦ s
      | inr r ↦ absurd (elim r [
        | inl l ↦ none _ (omega (arith, within d low)) d e l high refl same
        | inr l ↦ none _ (omega (arith, within e high)) e d l low refl (sym same.0, sym same.1)
      ])
    ]
