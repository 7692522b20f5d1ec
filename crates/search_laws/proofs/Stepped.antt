-- What each step leaves of a search, and which step a key names.
use Rattle.std.proofs.Common.{rules, ◌≡◌, ◌≢◌, ℕ, ◌+◌, ◌-◌, ◌*◌, ◌/◌, ◌<◌, ◌≤◌, Bool, false, cond, length, Option, Some}
use Rattle.std.proofs.Common.{None, ℤ, pos, ◌⊎◌, refl, sym, ◌∙◌, ap, inl, inr, arith}
use Rattle.std.proofs.{lemmas.Int.ints, lemmas.Bool.cases_eq, lemmas.Bool.cases_Bool}
use Rattle.def_forest.specs.declared.kinds.EdgeKind.TheVariants.{Augment, Grow, Shrink}
use Rattle.def_forest.specs.{Darts.darts_of, Forests.Forest, Shrunk.IsShrinking, Steps.rooted, Steps.IsAugmented}
use Rattle.def_forest.specs.{Valid.IsValid, declared.kinds.EdgeKind.EdgeKind, declared.kinds.Label.Label}
use Rattle.def_forest.specs.Opened.{Opening, IsOpening, IsOpened}
use Rattle.def_forest.specs.Tables.{kind_by, edge_kind, slack_of}
use Rattle.def_forest.specs.declared.kinds.Label.TheVariants.{Outer}
use Rattle.search_laws.specs.Keys.{no_key, edge_key_by, true_key}
use Rattle.search_laws.specs.Searches.{IsSeeking, AreMatchedBefore, IsInRange}
use Rattle.{std.specs.Prelude.int_lt, sum_laws.proofs.Sums.total_below_same, def_matching.specs.Matching.WeightedGraph}
use Rattle.{def_matching.specs.Matching.IsGraph, forest_laws.proofs.Expands.halves, forest_laws.proofs.Walks.slack_even}
use Rattle.{forest_laws.proofs.Grows.some_is, search_laws.proofs.Kept.shrunk_on, search_laws.proofs.Kept.shrunk_off}
use Rattle.search_laws.proofs.{Keys.at_edge, Keys.slack_high, Kept.expansion as the_expansion, Kept.shrink}
use Rattle.forest_laws.proofs.Expands as expands
use Rattle.forest_laws.proofs.Shrinks as shrinks

-- Where the weights and their sum are the same they stay in range.
pub range_same : {n first : ℕ} {f : Forest} (new : Forest) {risen : ℕ} → new.size ≡ f.size
    → ((b : ℕ) → new.weight b ≡ f.weight b) → IsInRange n first f risen → IsInRange n first new risen
range_same {first} {f} new {risen} size weights range = search (rules, total_below_same)

-- A search begins.
pub seeking_begun : (n : ℕ) (f : Forest) (v : ℕ) → v < n → AreMatchedBefore f v
    → IsSeeking n (rooted f (f.out v)) (Some (f.out v)) v
seeking_begun n f v l before = record { vertex = l; root_is = refl; before = λ u lu none. absurd (before u lu none) }

-- A cycle becomes one blossom.
pub seeking_shrunk : {g : WeightedGraph} → IsGraph g → {f new : Forest} {root after : Option ℕ} {d v : ℕ}
    → IsValid (darts_of g) f root → IsShrinking (darts_of g) f new root after d → IsSeeking g.n f root v
    → IsSeeking g.n new after v
seeking_shrunk {g} is {f} {new} {v} valid s seeking =
    let r_is = some_is s.r (f.out v) (sym s.old_root ∙ seeking.root_is) in
    record {
      vertex = seeking.vertex;
      root_is = s.root_is ∙ ap (λ x. Some (cond (s.inside x) s.set x)) r_is
          ∙ ap Some (sym (s.shrunk.out v seeking.vertex));
      before = λ u lu none. (let low : u < g.n = omega (arith, seeking.vertex) in
          elim (cases_Bool (s.inside (f.out u))) [
            | inl on ↦ (let here = shrunk_on is valid s u low on in
                let mate = sym (shrinks.mate_b (shrink is valid s)) ∙ ap new.mate (sym here) ∙ none in
                let top : s.top ≡ s.r =
                elim (s.tree.outer s.top s.cycle.top_outer) [ inl e ↦ e | inr w ↦ absurd (cc (w.1, mate)) ] in
                cc (shrunk_on is valid s v seeking.vertex (rw (top ∙ r_is) at s.cycle.top_in)))
            | inr off ↦ (let here = shrunk_off is valid s u low off in
                let mate = shrinks.mate_off (shrink is valid s) (f.out u) (s.unused.no_out u low) off in
                let same = seeking.before u lu (sym mate ∙ ap new.mate (sym here) ∙ none) in
                here ∙ same ∙ sym (shrunk_off is valid s v seeking.vertex (ap s.inside (sym same) ∙ off)))
          ]);
    }

-- An inner set is opened: all its parts are matched.
pub seeking_opened : {g : WeightedGraph} → IsGraph g → {f new : Forest} {o : Opening} {v : ℕ}
    → IsValid (darts_of g) f (Some (f.out v)) → IsOpening (darts_of g) f o → IsOpened (darts_of g) f new o
    → IsSeeking g.n f (Some (f.out v)) v → IsSeeking g.n new (Some (f.out v)) v
seeking_opened {g} is {f} {new} {o} {v} valid opening opened seeking =
    let v_off : f.out v ≢ o.b = λ e. cc ((valid.tree (f.out v) refl).root_outer, opening.label) in
    let expansion = the_expansion is valid opening opened in
    record {
      vertex = seeking.vertex;
      root_is = ap Some (sym (expands.out_old expansion v seeking.vertex v_off));
      before = λ u lu none. (let low : u < g.n = omega (arith, seeking.vertex) in
          elim (cases_eq (f.out u) o.b) [
            | inl at ↦ (let p = opening.part_of u low at in
                absurd (matched p.0 p.1 (ap new.mate (p.2 ∙ sym (expands.out_in expansion u low at)) ∙ none)))
            | inr ne ↦ (let here = expands.out_old expansion u low ne in
                let mate = (opened.others (f.out u) (expands.out_not_part expansion u low ne)).mate in
                let same = seeking.before u lu (sym mate ∙ ap new.mate (sym here) ∙ none) in
                here ∙ same ∙ sym (expands.out_old expansion v seeking.vertex v_off))
          ]);
    }
  where
    matched : (j : ℕ) → j ≤ 2 * o.half → new.mate (o.q j) ≢ None
    matched j l none = elim (halves j) [
      | inl w ↦ elim (cases_eq w.0 0) [
        | inl z ↦ (let at : j ≡ 0 = omega (arith, w.1) in cc opened.first_mate)
        | inr nz ↦
            let at : j ≡ 2 * (w.0 - 1) + 2 = omega (arith, w.1) in cc (opened.even_mate (w.0 - 1) (omega arith))
      ]
      | inr w ↦ cc (w.1, opened.odd_mate w.0 (omega (arith, w.1)))
    ]

-- The matching grows.
pub matched_more : {n : ℕ} (g : WeightedGraph) {f new : Forest} {r d v : ℕ} → IsAugmented (darts_of g) f new r d
    → IsSeeking n f (Some r) v → AreMatchedBefore new (v + 1)
matched_more g {f} {new} {r} {v} is seeking u l none = search rules

-- The step that an edge names when its key has come.
abbrev pub IsStep : (kind : EdgeKind) → Type 0
IsStep kind = (kind ≡ Shrink) ⊎ ((kind ≡ Grow) ⊎ (kind ≡ Augment))

key_step : (a b : Label) (ma mb : Option ℕ) (same : Bool) (slack : ℕ) {risen : ℕ} → edge_key_by a b same slack risen
    ≡ risen → risen < no_key → IsStep (kind_by a b ma mb same) × ((slack ≡ 0)
    ⊎ ((slack / 2 ≡ 0) × (a ≡ Outer) × (b ≡ Outer)))
key_step a b ma mb same slack e l = grind arith

not_loose : {x : ℤ} → x ≡ pos 0 → int_lt (pos 0) x ≡ false
not_loose e = rw e

-- An edge whose key has come allows a step.
pub edge_step : {g : WeightedGraph} → IsGraph g → {f : Forest} {root : Option ℕ} {risen : ℕ} (e : ℕ)
    → IsValid (darts_of g) f root → e < length g.edges → true_key g f risen e ≡ risen → risen < no_key
    → IsStep (edge_kind g f e)
edge_step {g} is {f} {root} {risen} e valid low key few =
    let step = key_step _ _ _ _ _ _ (sym (at_edge g f _ e low) ∙ key) few in
    let tight : slack_of g f e ≡ pos 0 = elim step.1 [
      | inl none ↦ omega (arith, ints)
      | inr w ↦ omega (arith, ints, (slack_even g f _ e is valid low w.1 w.2).1, w.0)
    ] in
    rw (not_loose tight) step.0
