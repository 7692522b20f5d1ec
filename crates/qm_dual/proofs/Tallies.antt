-- Sums along a list as sums over its places.
use Rattle.std.proofs.Common.{rules, ◌≡◌, ℕ, zero, suc, ◌+◌, ◌<◌, List, [], ◌∷◌, length, get_or, take, ℤ, ◌+ℤ◌, refl}
use Rattle.std.proofs.Common.{◌∙◌, ap, arith, ◌-◌, ◌≤◌, ◌≢◌, ◌==◌, ◌&&◌, Bool, true, false, max, sym, inl, inr}
use Rattle.std.proofs.{Common.◌⊎◌, Common.cond, Common.min, lemmas.Int.ints, lemmas.Bool.Decides.nat_tests}
use Rattle.std.proofs.lemmas.List.{take_more, get_or_past, length-set}
use Rattle.std.proofs.lemmas.Bool.{cases_eq, cases_lt, and_parts, and_from, eq-eqb}
use Rattle.sum_laws.proofs.Sums.{total_append, count_below_none, count_below_same, count_below_sum}
use Rattle.qm_dual.specs.Nest.{climbs, AreHeads, IsMeeting, HaveSameSets, stand_of, tally, tally_with, AreTallies}
use Rattle.qm_dual.proofs.Gathered.{set_later, around_later, climb_none, climbs_itself, climb_over, passed_on}
use Rattle.qm_dual.proofs.Gathered.{passed_later, passed_further, climb_on}
use Rattle.{std.specs.Prelude.slice_index, def_math.specs.Sums.total, def_math.specs.Sums.total_below}
use Rattle.{def_math.specs.Counts.count_below, sum_laws.proofs.Tests.same_test, sum_laws.proofs.Tests.once_at_most}
use Rattle.{def_matching.specs.Dual.AreNestedSets, def_matching.specs.Dual.DualLists, qm_dual.specs.Nest.AreSizes}

-- The first term of a sum below a bound.
pub total_below_prefix : (f : ℕ → ℤ) (n : ℕ) → total_below f (suc n) ≡ f 0 +ℤ total_below (λ k. f (suc k)) n
total_below_prefix f zero = omega (arith, ints)
total_below_prefix f (suc n) = omega (arith, ints, total_below_prefix f n)

-- The sum along a list is the sum of what stands at its places.
pub total_entries : {X : Type 0} (f : X → ℤ) (d : X) (xs : List X)
    → total f xs ≡ total_below (λ k. f (get_or xs k d)) (length xs)
total_entries f d [] = refl
total_entries f d (x ∷ xs) = search (rules, total_below_prefix, total_entries f d xs)

-- One entry more.
pub total_take : {X : Type 0} (f : X → ℤ) (d : X) (xs : List X) (i : ℕ) → i < length xs → total f (take (i + 1) xs)
    ≡ total f (take i xs) +ℤ f (get_or xs i d)
total_take f d xs i l = ap (total f) (take_more xs i d l) ∙ (total_append f (take i xs) (get_or xs i d ∷ [])
    ∙ omega (arith, ints))

-- The paths into which nested sets fall, and the least set around two entries.

-- Both tests in the other order.
swapped : (x y : Bool) → (x && y) ≡ (y && x)
swapped x y = grind (arith)

-- Where one entry is none, no set is around both.
pub meeting_none : (n m : ℕ) (up : List ℕ) (a b : ℕ) → (a ≡ 0) ⊎ (b ≡ 0) → IsMeeting n m up a b 0
meeting_none n m up a b none k = grind (arith, none, climb_none n up m k)

module _ {n m : ℕ} {up heads : List ℕ} (nested : AreNestedSets n m up) (are : AreHeads n m up heads) where
  -- A head is at or above its set, and is a set.
  up_to_head : (fuel j : ℕ) → m ≤ fuel + j → j < m → (j < slice_index heads j) × (slice_index heads j ≤ m)
  up_to_head zero j enough l = absurd (omega arith)
  up_to_head (suc fuel) j enough l = elim (are.each j l) [
    | inl e ↦ (omega arith, omega arith)
    | inr h ↦
        let above = around_later nested j h.0 h.1 in
        grind (arith, above, up_to_head fuel h.0 (omega arith) above.1, h.2)
  ]

  pub head_later : (j : ℕ) → j < m → (j < slice_index heads j) × (slice_index heads j ≤ m)
  head_later j l = up_to_head m j (omega arith) l

  -- A set that is passed from another lies on its path, or the path has its head below it.
  head_of_passed : (steps k j : ℕ) → j < m → climbs n up steps k (suc j) ≡ true
      → (slice_index heads j ≡ slice_index heads k) ⊎ (slice_index heads j ≤ k)
  head_of_passed zero k j l on = absurd cc
  head_of_passed (suc steps) k j l on =
      let around = slice_index up (n + j) in
      let high = passed_later nested steps k around in
      let rest = head_of_passed steps k in
      let first = passed_on j k (climbs n up steps k around) on in
      grind (arith, first, are.each j l, set_later nested j, high, around_later nested j, rest)

  -- A set that is passed from another lies on its path, or is passed from the set around the head.
  past_head : (steps k j t : ℕ) → j < m → slice_index heads j ≡ suc t → climbs n up steps k (suc j) ≡ true
      → (slice_index heads k ≡ suc t) ⊎ ((further : ℕ) × (climbs n up further k (slice_index up (n + t)) ≡ true))
  past_head zero k j t l top on = absurd cc
  past_head (suc steps) k j t l top on = elim (passed_on j k (climbs n up steps k (slice_index up (n + j))) on) [
    | inl e ↦ inl (sym (ap (slice_index heads) e) ∙ top)
    | inr there ↦ elim (are.each j l) [
      | inl e ↦ (let here : j ≡ t = omega arith in inr (steps, rw here at there))
      | inr h ↦ past_head steps k h.0 t (around_later nested j h.0 h.1).1 (sym h.2 ∙ top) (rw h.1 at there)
    ]
  ]

  -- What is passed from the set around the head is passed from the set.
  from_head : (fuel k j t : ℕ) → m ≤ fuel + j → j < m → slice_index heads j ≡ suc t
      → climbs n up m k (slice_index up (n + t)) ≡ true → climbs n up m k (suc j) ≡ true
  from_head zero k j t enough l top on = absurd (omega arith)
  from_head (suc fuel) k j t enough l top on =
      let over = climb_over nested k j l in
      grind (arith, are.each j l, around_later nested j, from_head fuel k, over, on, top)

  -- The last set before one that is passed.
  last_before : (steps q b : ℕ) → b < m → climbs n up steps q (suc b) ≡ true → b ≢ q
      → (c : ℕ) × (c < m) × (slice_index up (n + c) ≡ suc q) × (climbs n up m c (suc b) ≡ true)
  last_before zero q b l on ne = absurd cc
  last_before (suc steps) q b l on ne = elim (passed_on b q (climbs n up steps q (slice_index up (n + b))) on) [
    | inl e ↦ absurd (ne e)
    | inr there ↦ (let p = slice_index up (n + b) - 1 in
        let later = set_later nested b in
        let low = passed_later nested steps q (slice_index up (n + b)) (omega arith) there in
        let is : slice_index up (n + b) ≡ suc p = omega arith in
        elim (cases_eq p q) [
          | inl e ↦ (b, l, is ∙ ap suc e, climbs_itself nested b l)
          | inr other ↦ (let (c, low_c, outer, passed) = last_before steps q p (omega arith) (rw is at there) other in
              (c, low_c, outer, climb_over nested c b l (ap (climbs n up m c) is ∙ passed)))
        ])
  ]

  -- Two sets of one path: the later is passed from the earlier.
  path_chain : (fuel a b : ℕ) → m ≤ fuel + a → a ≤ b → b < m → slice_index heads a ≡ slice_index heads b
      → climbs n up m b (suc a) ≡ true
  path_chain zero a b enough le low same = absurd (omega arith)
  path_chain (suc fuel) a b enough le low same = elim (cases_eq a b) [
    | inl e ↦ ap (λ i. climbs n up m b (suc i)) e ∙ climbs_itself nested b low
    | inr ne ↦ elim (are.each a (omega arith)) [
      | inl e ↦ absurd (omega (arith, head_later b low))
      | inr h ↦ (let above = around_later nested a h.0 h.1 in
          elim (cases_lt b h.0) [
            | inr l ↦ climb_over nested b a (omega arith)
                (ap (climbs n up m b) h.1 ∙ path_chain fuel h.0 b (omega arith) l low (sym h.2 ∙ same))
            | inl l ↦ (let top = sym same ∙ h.2 in
                let r = last_before m h.0 b low
                (path_chain fuel b h.0 (omega arith) (omega arith) above.1 top) (λ e. omega arith) in
                let below = around_later nested r.0 h.0 r.2 in
                let high = head_later h.0 above.1 in
                let before = passed_later nested m r.0 (suc b) (omega arith) r.3 in
                let on_path = head_of_passed m r.0 b low r.3 in
                absurd (grind (arith, are.each r.0 r.1, on_path, before, below, high, r.2, top, h.3)))
          ])
    ]
  ]

  -- The sets around both stay those around both, where the climb with the lower head leaves its path.
  pub leave_path : (a b i j : ℕ) → a ≡ suc i → b ≡ suc j → a ≤ m → b ≤ m → slice_index heads i < slice_index heads j
      → HaveSameSets n m up a b (slice_index up (n + (slice_index heads i - 1))) b
  leave_path a b i j ai bj la lb lower k =
      let t : ℕ = slice_index heads i - 1 in
      let top : slice_index heads i ≡ suc t = omega (arith, head_later i (omega arith)) in
      rw (ai, bj) (same_test _ _ (λ on. let (first, second) = and_parts (climbs n up m k (suc i)) _ on in
      let inner = (passed_later nested m k (suc i) (omega arith) first).2 in
      let head = past_head m k i t (omega arith) top first in
      let further = λ (steps : ℕ). passed_further nested steps k k (slice_index up (n + t)) in
      let on_path = head_of_passed m k j (omega arith) second in
      let itself = climbs_itself nested k inner in
      grind (arith, head, set_later nested t, further, itself, second, head_later k inner, on_path))
      (λ on. let both = and_parts (climbs n up m k (slice_index up (n + t))) (climbs n up m k (suc j)) on in
      and_from _ _ (from_head m k i t (omega arith) (omega arith) top both.0) both.1))

  pub leave_path_back : (a b i j : ℕ) → a ≡ suc i → b ≡ suc j → a ≤ m → b ≤ m → slice_index heads j < slice_index heads
      i → HaveSameSets n m up a b a (slice_index up (n + (slice_index heads j - 1)))
  leave_path_back a b i j ai bj la lb lower k = swapped (climbs n up m k a) (climbs n up m k b)
      ∙ (leave_path b a j i bj ai lb la lower k
      ∙ swapped (climbs n up m k (slice_index up (n + (slice_index heads j - 1)))) (climbs n up m k a))

  -- On one path the later set is the least around both.
  one_path : (a b : ℕ) → a ≤ b → b < m → slice_index heads a ≡ slice_index heads b
      → IsMeeting n m up (suc a) (suc b) (suc b)
  one_path a b le low same k = same_test _ _ (λ on. and_from _ _ (passed_further nested m b k (suc a) (omega arith)
      (path_chain m a b (omega arith) le low same) on) on)
      (λ on. (and_parts (climbs n up m k (suc a)) (climbs n up m k (suc b)) on).1)

  pub meeting_found : (a b i j r : ℕ) → r ≡ max a b → a ≡ suc i → b ≡ suc j → a ≤ m → b ≤ m
      → slice_index heads i ≡ slice_index heads j → IsMeeting n m up a b r
  meeting_found a b i j r is ai bj la lb same k = search (rules, one_path, swapped)

-- The sizes of nested sets, as the sets pass on what they hold in their order.

-- A count of tests is at most the number of things tested.
tests_low : (p : ℕ → Bool) (n : ℕ) → count_below (λ v. cond (p v) 1 0) n ≤ n
tests_low p zero = omega arith
tests_low p (suc n) = omega (arith, once_at_most (p n), tests_low p n)

module _ {n m : ℕ} {up : List ℕ} (nested : AreNestedSets n m up) where
  -- A climb stands at no set below the ones that passed on, and at one of the sets.
  stands_later : (t entry : ℕ) → entry ≤ m
      → ((stand_of n up t entry ≡ 0) ⊎ (t < stand_of n up t entry)) × (stand_of n up t entry ≤ m)
  stands_later zero entry low = (grind arith, low)
  stands_later (suc t) entry low = search (rules, stands_later t entry low)

  -- Passing on changes nothing for the later sets.
  climb_from_stand : (t k entry : ℕ) → t ≤ k → k < m → climbs n up m k (stand_of n up t entry) ≡ climbs n up m k entry
  climb_from_stand zero k entry le l = refl
  climb_from_stand (suc t) k entry le l = search (rules, climb_on, climb_from_stand t k entry (omega arith) l)

  -- A climb passes a set exactly if it stands there when the sets below it have passed on.
  climb_stands : (k entry : ℕ) → entry ≤ m → k < m → (stand_of n up k entry == suc k) ≡ climbs n up m k entry
  climb_stands k entry low l =
      let stand = stand_of n up k entry in
      let rest = climb_from_stand k k entry (omega arith) l in
      let later = stands_later k entry low in
      same_test _ _ (λ on. let e : stand ≡ suc k = grind (arith, nat_tests) in
      sym rest ∙ ap (climbs n up m k) e ∙ climbs_itself nested k l)
      (λ on. eq-eqb stand (suc k) (omega (arith, passed_later nested m k stand later.1 (rest ∙ on))))

-- What a set passes on comes to the set around it, and to no other.
stand_step : (n : ℕ) (up : List ℕ) (k j entry : ℕ) → j ≢ k → cond (stand_of n up (suc k) entry == suc j) 1 0
    ≡ cond (stand_of n up k entry == suc j) 1 0 + cond (slice_index up (n + k) == suc j)
    (cond (stand_of n up k entry == suc k) 1 0) 0
stand_step n up k j entry other = search rules

-- A tally when one more set has passed on.
tally_step : (n : ℕ) (up : List ℕ) (vertices k j : ℕ) → j ≢ k → tally n up vertices (suc k) j
    ≡ tally n up vertices k j + cond (slice_index up (n + k) == suc j) (tally n up vertices k k) 0
tally_step n up vertices k j other = count_below_same _ _ vertices (λ v l. stand_step n up k j (slice_index up v) other)
    ∙ (count_below_sum (λ v. cond (stand_of n up k (slice_index up v) == suc j) 1 0)
    (λ v. cond (slice_index up (n + k) == suc j) (cond (stand_of n up k (slice_index up v) == suc k) 1 0) 0) vertices
    ∙ ap (λ x. tally n up vertices k j + x) (by_test (slice_index up (n + k) == suc j)))
  where
    by_test : (b : Bool) → count_below (λ v. cond b (cond (stand_of n up k (slice_index up v) == suc k) 1 0) 0) vertices
        ≡ cond b (tally n up vertices k k) 0
    by_test true = refl
    by_test false = count_below_none (λ v. 0) vertices (λ v l. refl)

-- Tallies are no greater than the number of vertices.
pub tallies_low : {n m : ℕ} {up : List ℕ} {vertices : ℕ} {t : ℕ → ℕ} {sizes : List ℕ}
    → AreTallies n m up vertices t sizes → (k : ℕ) → slice_index sizes k ≤ vertices
tallies_low {n} {m} {up} {vertices} {t} {sizes} are k =
    let few = tests_low (λ v. stand_of n up (t k) (slice_index up v) == suc k) vertices in
    grind (arith, cases_lt k m, are.each k, few, get_or_past sizes k 0, are.count)

length_with : (sizes : List ℕ) (entry more : ℕ) → length (tally_with sizes entry more) ≡ length sizes
length_with sizes zero more = refl
length_with sizes (suc q) more = length-set sizes q (slice_index sizes q + more)

-- A number, where the one that an entry names has grown.
number_with : (sizes : List ℕ) (entry more j a b : ℕ) → j < length sizes → slice_index sizes j ≡ a → more ≡ b
    → slice_index (tally_with sizes entry more) j ≡ a + cond (entry == suc j) b 0
number_with sizes entry more j a b h1 h2 h3 = search rules

-- One set more has passed on what it holds.
pub tallies_pass : {n m : ℕ} {up : List ℕ} → AreNestedSets n m up → (k : ℕ) (sizes : List ℕ) → k < m
    → AreTallies n m up n (λ j. min j k) sizes
    → AreTallies n m up n (λ j. min j (k + 1)) (tally_with sizes (slice_index up (n + k)) (slice_index sizes k))
tallies_pass {n} {m} {up} nested k sizes lk are =
    let entry = slice_index up (n + k) in
    let more = slice_index sizes k in
    record {
      count = length_with sizes entry more ∙ are.count;
      each = λ j l.
          let step = tally_step n up n k j in
          let grown = number_with sizes entry more j (slice_index sizes j) more (omega (arith, are.count)) refl refl in
          let later = set_later nested k in
          grind (arith, nat_tests, cases_lt k j, cases_eq j k, are.each j l, are.each k lk, step, grown, later);
    }

-- When all sets have passed on, the tallies are the sizes.
pub tallies_end : {n : ℕ} {d : DualLists} → AreNestedSets n (length d.z) d.up → (t : ℕ) (sizes : List ℕ)
    → length d.z ≤ t → AreTallies n (length d.z) d.up n (λ j. min j t) sizes → AreSizes n d sizes
tallies_end {n} {d} nested t sizes high are = search (rules, count_below_same, climb_stands)
