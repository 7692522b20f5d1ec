use Rattle.std.proofs.Common.{rules, ◌≡◌, ℕ, List, [], ◌∷◌, ◌++◌, length, get_or, sym, ◌∙◌, ap, subst, inl, inr}
use Rattle.std.proofs.Common.{length-append, arith}
use Rattle.std.proofs.lemmas.List.{map-append, length-map, get_or_append_left, get_or_push}
use Rattle.{std.proofs.lemmas.Bool.cases_lt, qm_offsets.specs.Fours.begins_of, qm_offsets.specs.Fours.AreFourStarts}
use Rattle.def_remesh.specs.{NewPoints.lengths_in, Numberings.tables_of}
use Rattle.{def_layout.specs.Layouts.layout_of, qm_offsets.proofs.Whole.sides_of}
use Rattle.qm_offsets.proofs.sides.side_tables.Goals as goal

pub invariant_of-summed : goal.invariant_of-summed
invariant_of-summed c = search (rules, sides_of)

pub loop-patch-preserved : goal.loop-patch-preserved
loop-patch-preserved c = record {
  count = ap length c.in_ok-push.ensures.items ∙ length-append c.loop-patch.tables.items (c.in_ok-four.four ∷ [])
      ∙ omega (arith, count);
  each = λ p low. elim (cases_lt p c.loop-patch.patch) [
    | inl less ↦ subst (AreFourStarts (layout_of c.args.t.now) (lengths_in c.args.lengths.now) p)
        (sym (ap (λ (xs : List (List (List ℕ))). get_or xs p []) list
        ∙ get_or_append_left (tables_of c.loop-patch.tables.items) (begins_of c.in_ok-four.four ∷ []) [] p
        (omega (arith, size, less)))) (c.loop-patch.invariant.each p less)
    | inr more ↦
        let same : c.loop-patch.patch ≡ p = omega arith in
        subst (AreFourStarts (layout_of c.args.t.now) (lengths_in c.args.lengths.now) p)
        (sym (ap (λ (xs : List (List (List ℕ))). get_or xs p []) list
        ∙ get_or_push (tables_of c.loop-patch.tables.items) (begins_of c.in_ok-four.four) [] p
        (omega (arith, size, same))))
        (subst (λ (q : ℕ). AreFourStarts (layout_of c.args.t.now) (lengths_in c.args.lengths.now) q
        (begins_of c.in_ok-four.four)) same c.in_ok-four.ensures)
  ];
}
  where
    count : length c.loop-patch.tables.items ≡ c.loop-patch.patch
    count = c.loop-patch.invariant.count

    list : tables_of c.push.new.self.items ≡ tables_of c.loop-patch.tables.items ++ begins_of c.in_ok-four.four ∷ []
    list = ap tables_of c.in_ok-push.ensures.items ∙ map-append begins_of c.loop-patch.tables.items
        (c.in_ok-four.four ∷ [])

    size : length (tables_of c.loop-patch.tables.items) ≡ c.loop-patch.patch
    size = length-map c.loop-patch.tables.items begins_of ∙ count
