-- Chains of darts.
use Rattle.std.proofs.lemmas.Grind.{common_steps}
use Rattle.std.proofs.Common.{◌≡◌, ◌≢◌, ℕ, suc, ◌+◌, ◌*◌, ◌<◌, ◌≤◌, ◌||◌, eqb, List, length, get_or, ◌⊎◌, refl, sym}
use Rattle.std.proofs.Common.{◌∙◌, ap, subst, inl, inr, arith, rules, ◌/◌, ◌-◌, Bool, Some, pos, to_z, w64}
use Rattle.std.proofs.{Math.ListN.set, lemmas.Bool.cases_eq, lemmas.Bool.eq-eqb, lemmas.Bool.eqb-true}
use Rattle.std.proofs.lemmas.{List.length-set, List.get_or-set_same, List.get_or-set_other, Int.to_z_pos, Int.ints}
use Rattle.{def_matching.specs.Matching.WeightedGraph, def_matching.specs.Matching.edge_at, qm_match.specs.Needs.IsNext}
use Rattle.def_forest.specs.{Darts.darts_of, Tables.forest_of, Tables.ForestTables, Tables.IsValidFor, Forests.Forest}
use Rattle.def_forest.specs.{Steps.shifted, Needs.MayShift, Valid.IsValid}
use Rattle.def_forest.specs.declared.kinds.EdgeKind.{EdgeKind, TheVariants.Loose, TheVariants.Idle}
use Rattle.qm_match.specs.States.{IsRefreshed, IsFreshAt, MayRefresh, GoesOn, IsUnderWay}
use Rattle.qm_match.specs.{Fans.passes, Fans.IsOn, Fans.AreFansOf, Fans.AreFans, declared.search.Search.Search}
use Rattle.{forest_laws.proofs.Bounds.dart_near, forest_laws.proofs.Bounds.near_odd, search_laws.proofs.Stepped.IsStep}
use Rattle.search_laws.specs.Searches.{AreMarked, IsInRange, IsSeeking, risen_limit}
use Rattle.search_laws.specs.Keys.{true_key, AreLow, AreRightAt, IsMended}
use Rattle.search_laws.proofs.{Keys.keys_same, Keys.lawful, Risen.key_soon, Risen.risen_low, Risen.range_shifted}
use mathlib.Core.Bool.{or-true}

-- A dart on a chain is the first one, or on the rest.
on_rest : (next : List ℕ) (here d : ℕ) → IsOn next (suc here) d → (here ≡ d) ⊎ IsOn next (get_or next here 0) d
on_rest next here d w = search rules

-- Nothing is on an empty chain.
on_none : (next : List ℕ) (d : ℕ) → IsOn next 0 d → ⊥
on_none next d w = search rules

module _ {g : WeightedGraph} {bound : ℕ} {first next : List ℕ} {first2 next2 : List ℕ} (fans : AreFansOf g bound first
    next) {v : ℕ} (lv : v < g.n) (low : bound < 2 * length g.edges) (near : (darts_of g).near bound ≡ v)
    (is_next : next2 ≡ set next bound (get_or first v 0)) (is_first : first2 ≡ set first v (bound + 1)) where
  next_here : get_or next2 bound 0 ≡ get_or first v 0
  next_here = search rules

  next_other : (i : ℕ) → i ≢ bound → get_or next2 i 0 ≡ get_or next i 0
  next_other i ne = ap (λ xs. get_or xs i 0) is_next ∙ get_or-set_other next bound i (get_or first v 0) 0 ne

  first_here : get_or first2 v 0 ≡ suc bound
  first_here = search rules

  -- The write lies past each chain, and does not change it.
  passes_same : (most entry d : ℕ) → entry ≤ bound → passes next2 most entry d ≡ passes next most entry d
  passes_same (suc k) (suc here) d l = rw (next_other here (omega arith))
      (ap (λ (q : Bool). eqb here d || q) (passes_same k (get_or next here 0) d (omega (arith, fans.nexts here))))
  passes_same _ _ d l = refl

  on_still : (entry d : ℕ) → entry ≤ bound → IsOn next entry d → IsOn next2 entry d
  on_still entry d l w = (w.0, passes_same w.0 entry d l ∙ w.1)

  -- The chain of the vertex begins with the new dart, and goes on as before.
  on_front : (d : ℕ) → (bound ≡ d) ⊎ IsOn next (get_or first v 0) d → IsOn next2 (get_or first2 v 0) d
  on_front d (inl e) = rw first_here (1, rw (eq-eqb bound d e))
  on_front d (inr w) =
      let rest = on_still (get_or first v 0) d (fans.firsts v) w in
      rw first_here (suc rest.0, rw (next_here, rest.1) (or-true (eqb bound d)))

  -- One dart more.
  pub put_more : AreFansOf g (bound + 1) first2 next2
  put_more = record {
    vertices = ap length is_first ∙ (length-set first v (bound + 1) ∙ fans.vertices);
    darts = ap length is_next ∙ (length-set next bound (get_or first v 0) ∙ fans.darts);
    firsts = search rules;
    nexts = λ d. grind (arith, cases_eq d bound, next_here, next_other d, fans.firsts v, fans.nexts d);
    all = λ d l. elim (cases_eq d bound) [
      | inl e ↦ rw (e, near) (on_front bound (inl refl))
      | inr ne ↦ (let on = fans.all d (omega arith) in
          elim (cases_eq ((darts_of g).near d) v) [
            | inl e ↦ rw e (on_front d (inr (rw e at on)))
            | inr other ↦ search (rules, on_still)
          ])
    ];
  }

-- What holds of each dart of a chain that a walk has passed: the others are on the chain that is left.
abbrev pub HoldsPassed : (next : List ℕ) (from entry : ℕ) (P : ℕ → Type 0) → Type 0
HoldsPassed next from entry P = (d : ℕ) → IsOn next from d → P d ⊎ IsOn next entry d

-- One dart more is passed.
pub passed_more : (next : List ℕ) (P : ℕ → Type 0) {Q : ℕ → Type 0} {from entry d rest : ℕ} → entry ≡ suc d → rest
    ≡ get_or next d 0 → ((x : ℕ) → P x → Q x) → Q d → HoldsPassed next from entry P → HoldsPassed next from rest Q
passed_more next P {d = d} is rest_is still here done x on = elim (done x on) [
  | inl held ↦ inl (still x held)
  | inr more ↦ elim (on_rest _ d x (rw is at more)) [ inl e ↦ inl (rw (← e) here) | inr rest ↦ inr (rw rest_is rest) ]
]

-- Where the chain of a vertex ends, all darts there are passed.
pub passed_all : {g : WeightedGraph} {first next : List ℕ} {v entry : ℕ} (P : ℕ → Type 0) → AreFans g first next
    → entry ≡ 0 → HoldsPassed next (get_or first v 0) entry P → (d : ℕ) → d < 2 * length g.edges
    → (darts_of g).near d ≡ v → P d
passed_all {next = next} P fans none done d l near = grind (arith, done d, fans.all d l, on_none next d)

-- What mending leaves.

module _ (g : WeightedGraph) (f : Forest) (risen : ℕ) where
  -- One leaf is mended.
  pub mended_one : {keys new : List ℕ} (leaf : ℕ) → leaf < length keys → new ≡ set keys leaf (true_key g f risen leaf)
      → IsMended g f risen keys new
  mended_one {keys} leaf l is = grind (arith, common_steps, length-set keys leaf (true_key g f risen leaf))

  -- More and more are.
  pub mended_on : {a b c : List ℕ} → IsMended g f risen a b → IsMended g f risen b c → IsMended g f risen a c
  mended_on p q = search rules

  -- What is right stays right.
  pub stays_right : {a b : List ℕ} (k : ℕ) → IsMended g f risen a b → get_or a k 0 ≡ true_key g f risen k
      → get_or b k 0 ≡ true_key g f risen k
  stays_right k p right = elim (p.each k) [ inl e ↦ e | inr e ↦ e ∙ right ]

  pub stay_right : {a b : List ℕ} (of : ℕ → Bool) → IsMended g f risen a b → AreRightAt g f risen a of
      → AreRightAt g f risen b of
  stay_right of p right e l at = stays_right e p (right e l at)

  -- The whole chain of a vertex is.
  pub vertex_right : {first next : List ℕ} (keys : List ℕ) (v : ℕ) {entry : ℕ} → AreFans g first next → entry ≡ 0
      → HoldsPassed next (get_or first v 0) entry (λ d. get_or keys (d / 2) 0 ≡ true_key g f risen (d / 2))
      → AreRightAt g f risen keys (λ w. eqb w v)
  vertex_right keys v fans none done e l at =
      let right : (d : ℕ) → d < 2 * length g.edges → d / 2 ≡ e → (darts_of g).near d ≡ v → get_or keys e 0 ≡ true_key g
      f risen e = λ d ld half near. rw half at (passed_all _ fans none done d ld near) in
      elim at [
        | inl on ↦ grind (arith, common_steps, right (2 * e), dart_near g e)
        | inr on ↦ grind (arith, common_steps, right (2 * e + 1), near_odd g (2 * e + 1) e)
      ]

-- Marks and keys that are made right.

-- What was made right stays so.
pub stays_fresh : {g : WeightedGraph} {old new : Search} {b : ℕ} → IsRefreshed g old new → IsFreshAt g old b
    → IsFreshAt g new b
stays_fresh {g} {old} {new} {b} is fresh =
    let right = stay_right g (forest_of old.forest) old.risen ((forest_of old.forest).holds b) is.mended in
    search (rules, is.forest, is.risen, right)

-- More and more is made right.
pub refreshed_on : {g : WeightedGraph} {a b d : Search} → IsRefreshed g a b → IsRefreshed g b d → IsRefreshed g a d
refreshed_on {g} {a} {b} {d} p q =
    let marked = rw p.forest at q.marked in
    search (rules, marked)

-- What may be made right may still be.
pub may_later : {g : WeightedGraph} {old new : Search} {b : ℕ} → IsRefreshed g old new → MayRefresh g old b
    → MayRefresh g new b
may_later {g} {b} is may = search rules

-- A shift of the dual, until the sum has risen to the least key.

module _ {g : WeightedGraph} {s : Search} (way : IsUnderWay g s) where
  valid_at : IsValid (darts_of g) (forest_of s.forest) (Some way.tree.0)
  valid_at = rw way.tree.1 at way.valid.valid

  sets : length g.edges + ((forest_of s.forest).size - g.n) ≤ length s.tour
  sets = omega (arith, way.made.size, way.made.leaves)

  pub risen_few : s.risen ≤ risen_limit
  risen_few = search (rules, risen_low)

module _ {g : WeightedGraph} {s : Search} {key : ℕ} (next : IsNext g s key) where
  abbrev rise : ℕ
  rise = key - s.risen

  abbrev after : Forest
  after = shifted (forest_of s.forest) (pos rise)

  sum : s.risen + rise ≡ key
  sum = omega (arith, next.high)

  -- The least key is small.
  pub few : key ≤ risen_limit
  few = search (rules, next.least, key_soon, valid_at next.way, sets next.way)

  -- Nothing happens before.
  room : (k : ℕ) → k < length s.tour → s.risen + rise ≤ true_key g (forest_of s.forest) s.risen k
  room k l = rw sum (next.least k l)

  shift_is : to_z w64 rise ≡ pos rise
  shift_is = to_z_pos w64 rise (omega (arith, few))

  -- No key changes.
  pub shift_keys : (k : ℕ) → k < length s.tour → true_key g after key k ≡ true_key g (forest_of s.forest) s.risen k
  shift_keys = rw sum at (keys_same g next.way.made.small.lawful (forest_of s.forest) next.way.valid.valid.outermost
      next.way.valid.valid.feasible s.risen rise (length s.tour) (sets next.way) room)

  shift_range : IsInRange g.n s.first after key
  shift_range = rw sum at (range_shifted next.way.made.small.lawful next.way.made.cheap next.way.made.perfect.1
      next.way.made.first next.way.made.low next.way.range (valid_at next.way) rise)

  -- The dual may be shifted.
  pub may_shift : MayShift g s.forest (to_z w64 rise)
  may_shift = rw shift_is (record {
    valid = next.way.valid;
    positive = omega (arith, ints);
    feasible = lawful g next.way.made.small.lawful (forest_of s.forest) next.way.valid.valid.outermost
        next.way.valid.valid.feasible s.risen rise (length s.tour) (sets next.way) room;
    small = λ b. omega (arith, shift_range.weights b, next.way.made.low, few);
  })

  -- The forest after the shift.
  pub shifted_to : (t : ForestTables) → forest_of t ≡ shifted (forest_of s.forest) (to_z w64 rise)
      → forest_of t ≡ after
  shifted_to t is = is ∙ ap (shifted (forest_of s.forest)) shift_is

  module _ (t : ForestTables) (is : forest_of t ≡ after) (root_is : t.root ≡ s.forest.root) where
    -- The search after the shift.
    pub shifted_way : IsValidFor g t → IsUnderWay g (record s { forest = t; risen = key })
    shifted_way valid =
        let (low, marked, range) = subst (λ (f : Forest). AreLow g f key s.tour × AreMarked f s.inner.items × IsInRange
        g.n s.first f key) (sym is) (λ k l. omega (arith, shift_keys k l), next.way.marked, shift_range) in
        grind arith

    -- It goes on from the same vertex.
    pub shifted_on : GoesOn g.n s.forest t
    shifted_on v seeking = rw root_is
        (subst (λ (f : Forest). IsSeeking g.n f s.forest.root v) (sym is) (assumption seeking))

-- A key was mended.
pub mended_way : {g : WeightedGraph} {s : Search} (leaf : ℕ) → IsUnderWay g s → leaf < length s.tour
    → IsUnderWay g (record s { tour = set s.tour leaf (true_key g (forest_of s.forest) s.risen leaf) })
mended_way {g} {s} leaf way l =
    let mended = mended_one g (forest_of s.forest) s.risen leaf l refl in
    search rules

-- A step is neither loose nor idle.
pub neither : (k : EdgeKind) → IsStep k → (k ≢ Loose) × (k ≢ Idle)
neither k is = grind arith
