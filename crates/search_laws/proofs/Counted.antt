-- Each step lessens what is left of a search.
use Rattle.std.proofs.Common.{rules, ◌≡◌, ◌≢◌, ℕ, ◌+◌, ◌<◌, ◌≤◌, true, List, length, mul-le-mul_right, get_or}
use Rattle.std.proofs.Common.{Option, Some, refl, sym, ◌∙◌, ap, inl, inr, arith}
use Rattle.std.proofs.lemmas.Bool.{cases_eq, cases_Bool, cond-true, cond-false, eq-eqb, ne_eqb}
use Rattle.{std.proofs.Math.ListN.set, std.proofs.lemmas.List.length-set, std.proofs.lemmas.List.get_or-set_same}
use Rattle.{std.proofs.lemmas.List.get_or-set_other, def_math.specs.Counts.count_below}
use Rattle.sum_laws.proofs.Sums.{count_below_le, count_below_lt, count_below_ones}
use Rattle.def_matching.specs.Matching.{WeightedGraph, IsGraph}
use Rattle.def_forest.specs.declared.kinds.Label.TheVariants.{Outer, Inner, Outside}
use Rattle.def_forest.specs.{Darts.darts_of, Darts.far, Forests.Forest, Forests.live_at, Forests.set_at}
use Rattle.def_forest.specs.{Forests.sets_of, Forests.walk, Opened.Opening, Opened.IsOpening, Opened.IsOpened}
use Rattle.def_forest.specs.{Shrunk.IsShrinking, Steps.grown, Valid.IsValid, declared.kinds.Label.Label}
use Rattle.forest_laws.proofs.{Grows.far_low, Grows.named_low, Grows.inner_named, Bounds.are_darts, Odds.live_none}
use Rattle.forest_laws.proofs.{Odds.live_some}
use Rattle.search_laws.specs.{Keys.is_stale, Keys.true_key, Searches.not_outer, Searches.vertices_left}
use Rattle.search_laws.specs.{Searches.steps_left, Searches.turns_left}
use Rattle.search_laws.proofs.Kept.{on_cycle, opened_old, opened_label, shrunk_on, shrunk_off, shrunk_set, shrunk_label}

not_outer_low : (l : Label) → not_outer l ≤ 1
not_outer_low l = grind arith

-- No more sets are in use than there are numbers of blossoms.
sets_low : (n : ℕ) (f : Forest) → sets_of n f ≤ f.size
sets_low n f =
    let below = count_below_le (live_at n f.nest.parts) (λ b. 1) f.size (λ b l. grind arith) in
    omega (arith, count_below_ones f.size)

fewer_vertices : (n : ℕ) (f new : Forest) → new.size ≡ f.size → vertices_left n new < vertices_left n f
    → steps_left n new < steps_left n f
fewer_vertices n f new size l = search (rules, sets_low)

fewer_sets : (n : ℕ) (f new : Forest) → new.size ≡ f.size → vertices_left n new ≤ vertices_left n f
    → sets_of n new < sets_of n f → steps_left n new < steps_left n f
fewer_sets n f new size h l = search rules

-- With a blossom from outside inner and another outer, no place is more of those that are not outer.
fewer_at : (label : ℕ → Label) (x outer : ℕ) {inn : ℕ} → label inn ≡ Outside
    → not_outer (set_at (set_at label inn Inner) outer Outer x) ≤ not_outer (label x)
fewer_at label x outer off = grind arith

module _ (g : WeightedGraph) (is : IsGraph g) (f : Forest) (root : Option ℕ) (valid : IsValid (darts_of g) f root)
    (d m : ℕ) (off : f.label (f.out (far (darts_of g) d)) ≡ Outside) (mate : f.mate (f.out (far (darts_of g) d))
    ≡ Some m) where
  abbrev inn : ℕ
  inn = f.out (far (darts_of g) d)

  abbrev outer : ℕ
  outer = f.out (far (darts_of g) m)

  -- A tree that grows.
  pub grown_fewer : steps_left g.n (grown (darts_of g) f d m) < steps_left g.n f
  grown_fewer =
      let pair = valid.matched inn m mate in
      let low = far_low _ (are_darts is) m pair.tight.low in
      let fewer = count_below_lt _ _ _ _ low (λ w l. fewer_at f.label _ _ off) (rw (eq-eqb outer outer refl)
      (omega (arith, ap not_outer (valid.outside inn m off mate)))) in
      fewer_vertices _ f (grown (darts_of g) f d m) refl fewer

module _ (g : WeightedGraph) (is : IsGraph g) (f new : Forest) (root after : Option ℕ) (d : ℕ)
    (valid : IsValid (darts_of g) f root) (s : IsShrinking (darts_of g) f new root after d) where
  -- Some blossom on the cycle is inner.
  inner_on_cycle : (x : ℕ) × (s.inside x ≡ true) × (f.label x ≡ Inner)
  inner_on_cycle =
      let second = walk new.nest.after s.top 1 in
      let not_top : second ≢ s.top =
      λ e. s.row.distinct 0 1 (omega arith) (omega (arith, s.row.odd, s.row.some)) (sym e) in
      elim (on_cycle is valid s second (s.row.marked 1)) [
        | inl outer ↦ elim (s.tree.outer second outer) [
          | inl e ↦ absurd (not_top (e ∙ s.cycle.root_top (ap s.inside (sym e) ∙ s.row.marked 1)))
          | inr w ↦ (f.out (far (darts_of g) w.0), s.cycle.mates second w.0 (s.row.marked 1) not_top w.1, w.2)
        ]
        | inr inner ↦ (second, s.row.marked 1, inner)
      ]

  now_outer : (w : ℕ) → w < g.n → s.inside (f.out w) ≡ true → not_outer (new.label (new.out w)) ≡ 0
  now_outer w l on = rw (shrunk_on is valid s w l on, shrunk_set is valid s)

  -- A cycle that becomes one blossom.
  pub shrunk_fewer : steps_left g.n new < steps_left g.n f
  shrunk_fewer =
      let p = inner_on_cycle in
      let w = valid.outermost.named p.0 (inner_named p.2) in
      let one = ap (λ b. not_outer (f.label b)) w.2 ∙ ap not_outer p.2 in
      fewer_vertices _ f new s.shrunk.size (count_below_lt _ _ _ _ w.1 (λ v l. elim (cases_Bool (s.inside (f.out v))) [
        | inl on ↦ omega (arith, now_outer v l on)
        | inr off ↦ (let label = shrunk_label is valid s _ (s.unused.no_out v l) off in
            rw (shrunk_off is valid s v l off, label) (omega arith))
      ]) (omega (arith, now_outer _ w.1 (ap s.inside w.2 ∙ p.1))))

module _ {g : WeightedGraph} (is : IsGraph g) {f new : Forest} {r : ℕ} {o : Opening}
    (valid : IsValid (darts_of g) f (Some r)) (opening : IsOpening (darts_of g) f o)
    (opened : IsOpened (darts_of g) f new o) where
  -- An inner set that is opened.
  pub opened_fewer : steps_left g.n new < steps_left g.n f
  opened_fewer =
      let low = named_low (are_darts is) valid (inner_named opening.label) in
      let part = opening.parts 0 (omega arith) in
      let live : f.nest.parts o.b ≢ 0 = λ none. (valid.nested.live (o.q 0) (λ e. part.1 (sym e ∙ part.0))).1
      (ap f.nest.parts part.0 ∙ none) in
      let gone = live_none new.nest.parts opening.high opened.no_parts in
      let sets = count_below_lt (live_at g.n new.nest.parts) (live_at g.n f.nest.parts) f.size o.b low
      (λ x l. elim (cases_eq x o.b) [
        | inl e ↦ rw e (omega arith)
        | inr ne ↦ rw (opened.sets x ne).many (omega arith)
      ]) (omega (arith, live_some f.nest.parts opening.high live)) in
      fewer_sets g.n f new opened.size (count_below_le (λ w. not_outer (new.label (new.out w)))
      (λ w. not_outer (f.label (f.out w))) g.n (λ w l. elim (cases_eq (f.out w) o.b) [
        | inl e ↦ rw (e, opening.label) (not_outer_low (new.label (new.out w)))
        | inr ne ↦ (let label = opened_label is valid opening opened w l ne in
            rw (opened_old is valid opening opened w l ne, label) (omega arith))
      ])) (rw opened.size sets)

-- Where fewer steps are left, or one leaf less is stale, fewer turns are left.
stale_low : (g : WeightedGraph) (f : Forest) (risen : ℕ) (keys : List ℕ) (n : ℕ)
    → count_below (is_stale g f risen keys) n ≤ n
stale_low g f risen keys n =
    let below = count_below_le (is_stale g f risen keys) (λ k. 1) n (λ k l. grind arith) in
    omega (arith, count_below_ones n)

pub fewer_turns : (g : WeightedGraph) (f new : Forest) (risen after : ℕ) (old keys : List ℕ) → length keys ≡ length old
    → steps_left g.n new < steps_left g.n f → turns_left g new after keys < turns_left g f risen old
fewer_turns g f new risen after old keys size l =
    rw size (omega (arith, mul-le-mul_right (length old + 1) l, stale_low g new after keys (length old)))

pub fewer_stale : (g : WeightedGraph) (f : Forest) (risen leaf : ℕ) (keys new : List ℕ) → leaf < length keys
    → get_or keys leaf 0 ≢ true_key g f risen leaf → new ≡ set keys leaf (true_key g f risen leaf)
    → turns_left g f risen new < turns_left g f risen keys
fewer_stale g f risen leaf keys new l ne is =
    let key = true_key g f risen leaf in
    let size = ap length is ∙ length-set keys leaf key in
    let right = ap (λ xs. get_or xs leaf 0) is ∙ get_or-set_same keys leaf key 0 l in
    let none : is_stale g f risen new leaf ≡ 0 = cond-true _ _ _ (eq-eqb (get_or new leaf 0) key right) in
    let one : is_stale g f risen keys leaf ≡ 1 = cond-false _ _ _ (ne_eqb (get_or keys leaf 0) key ne) in
    let less = count_below_lt (is_stale g f risen new) (is_stale g f risen keys) (length keys) leaf l
    (λ k lk. grind (arith, none, is, get_or-set_other keys leaf k key 0)) (omega arith) in
    rw size (omega arith)
