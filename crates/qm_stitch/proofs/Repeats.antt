-- Numbers that stand twice in a list.
use Rattle.std.proofs.lemmas.Grind.{common_steps}
use Rattle.std.proofs.Common.{rules, ◌≡◌, ◌⊎◌, ◌↔◌, ℕ, suc, ◌+◌, ◌-◌, ◌/◌, ◌%◌, ◌^◌, ◌<◌, ◌≤◌, true, false, cond, List}
use Rattle.std.proofs.Common.{[], ◌∷◌, length, take, drop, get_or, sym, ◌∙◌, inl, inr, arith}
use Rattle.std.proofs.lemmas.{Bool.cases_eq, Bool.cases_lt, Bool.eqb-true, Bool.false≢true, Bool.Decides.nat_tests}
use Rattle.std.proofs.lemmas.List.{get_or-take, get_or-drop, length-take-le, length-drop}
use Rattle.std.proofs.lemmas.List.Sums.{sum_by-cons, sum_by-take-drop, get_or-le-sum_by}
use Rattle.std.proofs.{lemmas.List.Sorted.sum_by-IsPermutation}
use Rattle.std.specs.{Prelude.◌==◌, List.sum_by, List.Sorted.IsPermutation, List.Sorted.IsNonDecreasing}
use Rattle.qm_stitch.specs.Rims.{is_repeat_at, IsLeastRepeat, IsRepeat, StandsTwice}

-- How often a number stands in a list.
abbrev hit : (key x : ℕ) → ℕ
hit key x = cond (x == key) 1 0

abbrev times : (key : ℕ) (xs : List ℕ) → ℕ
times key xs = sum_by (hit key) xs

some_place : (key d : ℕ) (xs : List ℕ) → 0 < times key xs → (i : ℕ) × (i < length xs) × (get_or xs i d ≡ key)
some_place key d [] some = absurd (omega arith)
some_place key d (x ∷ xs) some = elim (cases_eq x key) [
  | inl same ↦ (0, omega arith, same)
  | inr other ↦
      let r = some_place key d xs (grind (arith, nat_tests, sum_by-cons (hit key) x xs)) in
      (suc r.0, omega (arith, r.1), r.2)
]

two_places : (key : ℕ) (xs : List ℕ) → 2 ≤ times key xs → StandsTwice xs key
two_places key [] two = absurd (omega arith)
two_places key (x ∷ xs) two = elim (cases_eq x key) [
  | inl same ↦
      let r = some_place key 0 xs (grind (arith, nat_tests, sum_by-cons (hit key) x xs)) in
      (0, suc r.0, omega arith, omega (arith, r.1), same, r.2)
  | inr other ↦
      let r = two_places key xs (grind (arith, nat_tests, sum_by-cons (hit key) x xs)) in
      (suc r.0, suc r.1, omega (arith, r.2), omega (arith, r.3), r.4, r.5)
]

-- What stands at a place counts at least once.
one_time : (key d : ℕ) (xs : List ℕ) (i : ℕ) → i < length xs → get_or xs i d ≡ key → 1 ≤ times key xs
one_time key d xs i low at = grind (arith, nat_tests, get_or-le-sum_by (hit key) xs i d low)

two_times : (key : ℕ) (xs : List ℕ) → StandsTwice xs key → 2 ≤ times key xs
two_times key xs (i, j, less, low, at_i, at_j) =
    let early = one_time key 0 (take j xs) i in
    let late = one_time key 0 (drop j xs) 0 in
    grind (arith, length-take-le, length-drop, get_or-drop, get_or-take, sum_by-take-drop (hit key) xs j, early, late)

-- What repeats in a list repeats in each list that has the same sums.
pub repeat_moved : (xs ys : List ℕ) (key : ℕ) → ((f : ℕ → ℕ) → sum_by f ys ≡ sum_by f xs) → IsRepeat xs key
    → IsRepeat ys key
repeat_moved xs ys key same (inl (loop, (k, low, at))) = search (rules, some_place, one_time)
repeat_moved xs ys key same (inr two) = inr (two_places key ys (omega (arith, two_times key xs two, same (hit key))))

module _ (keys : List ℕ) (increasing : IsNonDecreasing keys) where
  abbrev key_at : (k : ℕ) → ℕ
  key_at k = get_or keys k 0

  -- Equal keys at two places are at all places between them.
  between : (i j k : ℕ) → i ≤ j → j ≤ k → k < length keys → key_at i ≡ key_at k → key_at j ≡ key_at i
  between i j k ij jk low same = omega (arith, increasing i j 0 ij (omega arith), increasing j k 0 jk low)

  -- A place tells of a repeat where its key is that of a loop, or the next one is the same.
  told_at : (place : ℕ) → (is_repeat_at keys place ≡ true) ↔ ((key_at place / 2 ^ 32 ≡ key_at place % 2 ^ 32)
      ⊎ ((place + 1 < length keys) × (key_at (place + 1) ≡ key_at place)))
  told_at place = grind (arith, nat_tests)

  -- Where a place does not tell of what stands there, the place before it does.
  pub before_tells : {place key : ℕ} → place < length keys → key_at place ≡ key → 0 < place
      → is_repeat_at keys place ≡ false → ((key_at (place - 1) == key) ≡ true) ↔ IsRepeat keys key
  before_tells {place} {key} low at some off = (
    λ on. inr (place - 1, place, omega arith, low, eqb-true _ key on, at),
    elim [
      | inl (loop, has) ↦ grind (arith, nat_tests)
      | inr (i, j, less, j_low, at_i, at_j) ↦ grind (arith, between place (place + 1) j, between i (place - 1) place)
    ],
  )

  -- It is told at the first place where it stands.
  repeat_at : (key : ℕ) → IsRepeat keys key
      → (k : ℕ) × (k < length keys) × (key_at k ≡ key) × (is_repeat_at keys k ≡ true)
  repeat_at key (inl (loop, (k, low, at))) = grind (arith, common_steps, told_at k)
  repeat_at key (inr (i, j, less, low, at_i, at_j)) = search rules

  -- The first place of a repeat has the least one.
  pub first_is : (place : ℕ) → place < length keys → ((k : ℕ) → k < place → is_repeat_at keys k ≡ false)
      → is_repeat_at keys place ≡ true → IsLeastRepeat keys (key_at place)
  first_is place low none on = record {
    is = (search rules);
    least = λ other is.
        let (k, k_low, at, told) = repeat_at other is in
        grind (arith, cases_lt k place, none k, told, at, increasing place k 0);
  }

  pub none_is : ((k : ℕ) → k < length keys → is_repeat_at keys k ≡ false) → (key : ℕ) → ¬ IsRepeat keys key
  none_is none key is = let r = repeat_at key is in false≢true (sym (none r.0 r.1) ∙ r.3)

-- The least repeat does not depend on the order.
pub least_moved : (xs ys : List ℕ) (key : ℕ) → IsPermutation xs ys → IsLeastRepeat ys key → IsLeastRepeat xs key
least_moved xs ys key moved is = record {
  is = repeat_moved ys xs key (λ f. sym (sum_by-IsPermutation f xs ys moved)) is.is;
  least = λ other repeats. is.least other (repeat_moved xs ys other (λ f. sum_by-IsPermutation f xs ys moved) repeats);
}
