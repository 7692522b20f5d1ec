-- Climbing through nested sets, one set at a time.
use Rattle.std.proofs.Common.{rules, ◌≡◌, ℕ, zero, suc, ◌+◌, ◌<◌, ◌≤◌, ◌≢◌, ◌==◌, ◌||◌, Bool, true, false, List, refl}
use Rattle.std.proofs.Common.{sym, ◌∙◌, ap, inl, inr, ◌⊎◌, arith, ◌*◌, ◌^◌, not, cond, length, ℤ, pos, ◌+ℤ◌, ◌-ℤ◌}
use Rattle.std.proofs.Common.{[], ◌∷◌, ◌*ℤ◌, Option, Some, None}
use Rattle.std.proofs.lemmas.Bool.{or_left, or_right, cases_eq, eq-eqb, ne_eqb}
use Rattle.std.proofs.{lemmas.List.get_or_past, lemmas.Int.ints, lemmas.Bool.Decides.nat_tests}
use Rattle.std.specs.Prelude.{slice_index, unsigned_abs}
use Rattle.def_matching.specs.Dual.{AreNestedSets, DualLists, AreSmall, IsSmallDual, z_at}
use Rattle.qm_dual.specs.Nest.{climbs, around, apart, named_sum, AreSums, IsMeeting}
use Rattle.def_math.specs.{Sums.total_below, Sums.total, Counts.count, Searches.least, Searches.or_this}
use Rattle.sum_laws.proofs.Sums.{total_below_same, total_below_sum, total_below_none, total_below_one}

-- No set: nothing is passed.
pub climb_none : (n : ℕ) (up : List ℕ) (steps k : ℕ) → climbs n up steps k 0 ≡ false
climb_none n up steps k = grind (arith)

-- A set that is passed: it is the first, or passed from the set around that.
pub passed_on : (j k : ℕ) (rest : Bool) → ((j == k) || rest) ≡ true → (j ≡ k) ⊎ (rest ≡ true)
passed_on j k rest on = elim (cases_eq j k) [ inl e ↦ inl e | inr ne ↦ inr (rw (ne_eqb j k ne) at on) ]

module _ {n m : ℕ} {up : List ℕ} (nested : AreNestedSets n m up) where
  -- The set around a set is none, or a later one.
  pub set_later : (j : ℕ) → (slice_index up (n + j) ≡ 0)
      ⊎ ((j + 1 < slice_index up (n + j)) × (slice_index up (n + j) ≤ m))
  set_later j = search (rules, get_or_past)

  -- The same, where there is a set around it.
  pub around_later : (j q : ℕ) → slice_index up (n + j) ≡ suc q → (j < q) × (q < m)
  around_later j q is = let p = set_later j in (omega arith, omega arith)

  -- A step more changes nothing, where the steps suffice.
  more_steps : (steps k entry : ℕ) → entry ≤ m → (entry ≢ 0 → m < steps + entry)
      → climbs n up (suc steps) k entry ≡ climbs n up steps k entry
  more_steps zero k zero low enough = refl
  more_steps (suc steps) k zero low enough = refl
  more_steps zero k (suc j) low enough = absurd (omega (arith, enough (λ e. omega arith)))
  more_steps (suc steps) k (suc j) low enough =
      let room = enough (λ e. omega arith) in
      let p = set_later j in
      ap (λ b. (j == k) || b) (more_steps steps k (slice_index up (n + j)) (omega arith) (λ ne. omega arith))

  -- One set up.
  pub climb_on : (k j : ℕ) → j < m → climbs n up m k (suc j) ≡ ((j == k) || climbs n up m k (slice_index up (n + j)))
  climb_on k j l = let p = set_later j in sym (more_steps m k (suc j) (omega arith) (λ ne. omega arith))

  -- A climb from a set passes it, and what is passed from the set around it.
  pub climbs_itself : (k : ℕ) → k < m → climbs n up m k (suc k) ≡ true
  climbs_itself k l = climb_on k k l ∙ or_left (k == k) _ (eq-eqb k k refl)

  pub climb_over : (k j : ℕ) → j < m → climbs n up m k (slice_index up (n + j)) ≡ true → climbs n up m k (suc j) ≡ true
  climb_over k j l on = climb_on k j l ∙ or_right (j == k) _ on

  -- Only later sets are passed, and no climb is from none.
  pub passed_later : (steps k entry : ℕ) → entry ≤ m → climbs n up steps k entry ≡ true
      → (0 < entry) × (entry ≤ suc k) × (k < m)
  passed_later (suc steps) k (suc j) low on =
      let around = slice_index up (n + j) in
      let first = passed_on j k (climbs n up steps k around) on in
      grind (arith, first, set_later j, passed_later steps k around)
  passed_later _ k _ low on = absurd cc

  -- Where climbing from a set passes another, what the other passes is passed.
  pub passed_further : (steps b k entry : ℕ) → entry ≤ m → climbs n up steps b entry ≡ true
      → climbs n up m k (suc b) ≡ true → climbs n up m k entry ≡ true
  passed_further (suc steps) b k (suc j) low on further =
      let around = slice_index up (n + j) in
      let first = passed_on j b (climbs n up steps b around) on in
      let rest = passed_further steps b k around in
      grind (arith, first, set_later j, rest, climb_over k j, further)
  passed_further _ b k _ low on further = absurd cc

-- The load of an edge, by the sets around each of its ends and around both.

-- A sum of small terms is small.
pub total_below_small : (f : ℕ → ℤ) (c n : ℕ) → ((k : ℕ) → k < n → unsigned_abs (f k) ≤ c)
    → unsigned_abs (total_below f n) ≤ n * c
total_below_small f c zero small = omega arith
total_below_small f c (suc n) small =
    omega (arith, ints, small n (omega arith), total_below_small f c n (λ k l. small k (omega arith)))

-- What a climb gathers is small.
pub around_small : (n : ℕ) (d : DualLists) → AreSmall d.z → (entry : ℕ) → unsigned_abs (around n d entry)
    ≤ length d.z * 10 ^ 18
around_small n d small entry = total_below_small _ (10 ^ 18) (length d.z) (λ k l. grind (arith, ints, small k l))

-- From no set nothing is gathered.
around_none : (n : ℕ) (d : DualLists) → around n d 0 ≡ pos 0
around_none n d = search (rules, total_below_none)

-- A set gathers its own number, and what the set around it gathers.
pub around_step : (n : ℕ) (d : DualLists) → AreNestedSets n (length d.z) d.up → (j : ℕ) → j < length d.z
    → around n d (suc j) ≡ z_at d j +ℤ around n d (slice_index d.up (n + j))
around_step n d nested j l =
    let own : ℕ → ℤ = λ (k : ℕ). cond (j == k) (z_at d k) (pos 0) in
    let rest : ℕ → ℤ = λ (k : ℕ). cond (climbs n d.up (length d.z) k (slice_index d.up (n + j))) (z_at d k) (pos 0) in
    let parts : around n d (suc j) ≡ total_below (λ k. own k +ℤ rest k) (length d.z) = total_below_same _ _ (length d.z)
    (λ k lk.
    let later = passed_later nested (length d.z) k (slice_index d.up (n + j)) in
    grind (arith, ints, nat_tests, cases_eq j k, climb_on nested k j l, set_later nested j, later)) in
    let here : own j ≡ z_at d j = ap (λ b. cond b (z_at d j) (pos 0)) (eq-eqb j j refl) in
    let sum = total_below_sum own rest (length d.z) in
    let one = total_below_one own (length d.z) j l (λ k lk ne. ap (λ b. cond b (z_at d k) (pos 0))
    (ne_eqb j k (λ e. ne (sym e)))) in
    omega (arith, ints)

-- A set's sum is what a climb gathers from its entry, where the sums of the sets from k on are known.
pub named_around : {n : ℕ} {d : DualLists} {k : ℕ} {sums : List ℤ} → AreSums n d k sums → (entry : ℕ)
    → entry ≤ length d.z → (entry ≢ 0 → k < entry) → named_sum sums entry ≡ around n d entry
named_around {n} {d} h1 entry h2 h3 = search (rules, around_none)

-- The sum of a named set is small.
pub named_small : (n : ℕ) (d : DualLists) (sums : List ℤ) → AreSums n d 0 sums → IsSmallDual d → (entry : ℕ)
    → entry ≤ length d.z → (x : ℤ) → x ≡ named_sum sums entry → unsigned_abs x ≤ 2 ^ 30 * 10 ^ 18
named_small n d sums are small entry low x is = search (rules, around_small)

-- The sets around exactly one of two entries, by the sums of the sets that the two name and of the least around both.
pub apart_sums : {n : ℕ} {d : DualLists} {sums : List ℤ} → AreSums n d 0 sums → {a b entry : ℕ} → a ≤ length d.z
    → b ≤ length d.z → entry ≤ length d.z → IsMeeting n (length d.z) d.up a b entry
    → apart n d a b ≡ (named_sum sums a +ℤ named_sum sums b) -ℤ (named_sum sums entry +ℤ named_sum sums entry)
apart_sums {n} {d} {sums} are {a} {b} {entry} la lb le meets =
    let crossing : ℕ → ℤ = λ (k : ℕ). cond (cond (climbs n d.up (length d.z) k a) (not (climbs n d.up (length d.z) k b))
    (climbs n d.up (length d.z) k b)) (z_at d k) (pos 0) in
    let from : ℕ → ℕ → ℤ = λ (e k : ℕ). cond (climbs n d.up (length d.z) k e) (z_at d k) (pos 0) in
    let both = from entry in
    let parts : total_below (λ k. crossing k +ℤ (both k +ℤ both k)) (length d.z)
    ≡ total_below (λ k. from a k +ℤ from b k) (length d.z) = total_below_same _ _ (length d.z)
    (λ k l. ap (λ x. crossing k +ℤ (cond x (z_at d k) (pos 0) +ℤ cond x (z_at d k) (pos 0))) (meets k)
    ∙ grind (arith, ints)) in
    let one = total_below_sum crossing (λ k. both k +ℤ both k) (length d.z) in
    let two = total_below_sum both both (length d.z) in
    let sum = total_below_sum (from a) (from b) (length d.z) in
    let at_a = named_around are a la (λ ne. omega arith) in
    let at_b = named_around are b lb (λ ne. omega arith) in
    omega (arith, ints, named_around are entry le (λ ne. omega arith))

-- A sum over the ends of edges is a sum over the vertices.

-- 1 where the two numbers are equal.
abbrev pub hit : ℕ → ℕ → ℕ
hit u k = cond (u == k) 1 0

-- The ends of each are below a bound.
abbrev pub EndsBelow : {X : Type 0} → (X → ℕ) → (X → ℕ) → ℕ → List X → Type 0
EndsBelow u v n [] = Unit {0}
EndsBelow u v n (x ∷ xs) = (u x < n) × (v x < n) × EndsBelow u v n xs

-- A sum as a factor.
pub plus_times : (a b : ℕ) (c : ℤ) → pos (a + b) *ℤ c ≡ pos a *ℤ c +ℤ pos b *ℤ c
plus_times a b c = search (rules, ints)

-- The number of one vertex, as a sum in which it alone counts.
pub one_end : (f : ℕ → ℤ) (n u : ℕ) → u < n → total_below (λ k. pos (hit u k) *ℤ f k) n ≡ f u
one_end f n u l =
    total_below_one _ n u l (λ k lk ne. grind (arith, ints, nat_tests)) ∙ grind (arith, ints, nat_tests)

-- Each vertex counts as often as it is an end.
pub ends_sum : {X : Type 0} (u v : X → ℕ) (f : ℕ → ℤ) (n : ℕ) (xs : List X) → EndsBelow u v n xs
    → total (λ x. f (u x) +ℤ f (v x)) xs ≡ total_below (λ k. pos (count (λ x. hit (u x) k + hit (v x) k) xs) *ℤ f k) n
ends_sum u v f n [] below = sym (total_below_none (λ k. pos 0 *ℤ f k) n (λ k l. omega (arith, ints)))
ends_sum {X} u v f n (x ∷ xs) below =
    let rest : ℕ → ℤ = λ (k : ℕ). pos (count (λ (e : X). hit (u e) k + hit (v e) k) xs) *ℤ f k in
    let left : ℕ → ℤ = λ (k : ℕ). pos (hit (u x) k) *ℤ f k in
    let right : ℕ → ℤ = λ (k : ℕ). pos (hit (v x) k) *ℤ f k in
    let parts : total_below (λ k. pos (hit (u x) k + hit (v x) k + count (λ (e : X). hit (u e) k + hit (v e) k) xs) *ℤ f
    k) n ≡ total_below (λ k. (left k +ℤ right k) +ℤ rest k) n = total_below_same _ _ n (λ k l.
    let both = plus_times (hit (u x) k + hit (v x) k) (count (λ (e : X). hit (u e) k + hit (v e) k) xs) (f k) in
    omega (arith, ints, plus_times (hit (u x) k) (hit (v x) k) (f k))) in
    let sum = total_below_sum (λ k. left k +ℤ right k) rest n in
    let ends = total_below_sum left right n in
    omega (arith, ints, one_end f n (u x) below.0, one_end f n (v x) below.1, ends_sum u v f n xs below.2)

-- Where each vertex is an end just once, each counts once.
pub ends_once : {X : Type 0} (u v : X → ℕ) (f : ℕ → ℤ) (n : ℕ) (xs : List X) → EndsBelow u v n xs
    → ((k : ℕ) → k < n → count (λ x. hit (u x) k + hit (v x) k) xs ≡ 1)
    → total (λ x. f (u x) +ℤ f (v x)) xs ≡ total_below f n
ends_once u v f n xs below once = ends_sum u v f n xs below
    ∙ total_below_same _ f n (λ k l. rw (once k l) (omega (arith, ints)))

-- Laws of the least number that passes a test.

-- Where none passes, none is found.
pub least_none : (p : ℕ → Bool) (n : ℕ) → ((k : ℕ) → k < n → p k ≡ false) → least p n ≡ None
least_none p zero off = refl
least_none p (suc n) off = rw (least_none p n (λ k l. off k (omega arith)), off n (omega arith)) refl

-- The first that passes is found.
pub least_some : (p : ℕ → Bool) (n j : ℕ) → j < n → ((k : ℕ) → k < j → p k ≡ false) → p j ≡ true → least p n ≡ Some j
least_some p zero j l off on = absurd (omega arith)
least_some p (suc n) j l off on =
    grind (arith, cases_eq j n, least_none p n, least_some p n j, off, on)

-- What was not found does not pass.
not_this : (o : Option ℕ) (n : ℕ) (b : Bool) → or_this o n b ≡ None → (o ≡ None) × (b ≡ false)
not_this None n false none = (refl, refl)
not_this _ _ _ none = absurd cc

-- Where none is found, none passes.
pub none_below : (p : ℕ → Bool) (n : ℕ) → least p n ≡ None → (k : ℕ) → k < n → p k ≡ false
none_below p zero none k l = absurd (omega arith)
none_below p (suc n) none k l =
    let (before, here) = not_this (least p n) n (p n) none in
    grind (arith, cases_eq k n, here, none_below p n before k)

-- Tests that agree below the bound have the same least number.
pub least_same : (p q : ℕ → Bool) (n : ℕ) → ((k : ℕ) → k < n → p k ≡ q k) → least p n ≡ least q n
least_same p q zero same = refl
least_same p q (suc n) same = rw (least_same p q n (λ k l. same k (omega arith)), same n (omega arith)) refl

-- What is found is below the bound.
found_this : (o : Option ℕ) (n j : ℕ) (b : Bool) → or_this o n b ≡ Some j → (o ≡ Some j) ⊎ (n ≡ j)
found_this (Some i) n j b found = inl found
found_this None n j true found = inr cc
found_this None n j false found = absurd cc

pub least_low : (p : ℕ → Bool) (n j : ℕ) → least p n ≡ Some j → j < n
least_low p zero j found = absurd cc
least_low p (suc n) j found = grind (arith, found_this (least p n) n j (p n) found, least_low p n j)
