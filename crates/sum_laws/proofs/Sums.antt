-- Laws of sums of whole numbers.
use Rattle.std.proofs.lemmas.Grind.{common_steps}
use Rattle.std.proofs.Common.{rules, ◌≡◌, ℕ, zero, suc, ◌+◌, ◌<◌, List, [], ◌∷◌, ◌++◌, ℤ, pos, negsuc, ◌+ℤ◌, ◌-ℤ◌, ◌*ℤ◌}
use Rattle.std.proofs.Common.{◌≤ℤ◌, ◌<ℤ◌, refl, zero-add, add-zero, add-one, sym, ap, inl, inr, ◌⊎◌, arith, ◌*◌, ◌≤◌}
use Rattle.std.proofs.Common.{mul-zero, mul-add}
use Rattle.std.proofs.{lemmas.Int.ints, lemmas.Bool.cases_eq}
use Rattle.def_math.specs.{Sums.total, Sums.total_below, Sums.span, Counts.count, Counts.count_below}

-- Arithmetic of natural and of whole numbers.
pub ruleset integers = (arith, ints)

-- A factor goes through a sum of two.
pub times_sum : (a b c : ℤ) → a *ℤ (b +ℤ c) ≡ a *ℤ b +ℤ a *ℤ c
times_sum (pos zero) b c = omega integers
times_sum (pos (suc n)) b c = omega (integers, times_sum (pos n) b c)
times_sum (negsuc zero) b c = omega integers
times_sum (negsuc (suc n)) b c = omega (integers, times_sum (negsuc n) b c)

-- Two lists in a row.
pub total_append : {X : Type 0} (f : X → ℤ) (xs ys : List X) → total f (xs ++ ys) ≡ total f xs +ℤ total f ys
total_append f [] ys = omega integers
total_append f (x ∷ xs) ys = omega (integers, total_append f xs ys)

-- Equal terms have equal sums.
pub total_same : {X : Type 0} (f g : X → ℤ) (xs : List X) → ((x : X) → f x ≡ g x) → total f xs ≡ total g xs
total_same f g [] same = refl
total_same f g (x ∷ xs) same = omega (integers, same x, total_same f g xs same)

-- A sum of sums is the sum of the terms' sums.
pub total_sum : {X : Type 0} (f g : X → ℤ) (xs : List X) → total (λ x. f x +ℤ g x) xs ≡ total f xs +ℤ total g xs
total_sum f g [] = refl
total_sum f g (x ∷ xs) = omega (integers, total_sum f g xs)

-- Equal terms below the bound have equal sums.
pub total_below_same : (f g : ℕ → ℤ) (n : ℕ) → ((k : ℕ) → k < n → f k ≡ g k) → total_below f n ≡ total_below g n
total_below_same f g zero same = refl
total_below_same f g (suc n) same = search (rules, total_below_same f g n (λ k l. same k (omega arith)))

-- No term below the bound is greater, and so no sum.
pub total_below_le : (f g : ℕ → ℤ) (n : ℕ) → ((k : ℕ) → k < n → f k ≤ℤ g k) → total_below f n ≤ℤ total_below g n
total_below_le f g zero le = omega integers
total_below_le f g (suc n) le = omega (integers, total_below_le f g n (λ k l. le k (omega arith)), le n (omega arith))

-- A sum of sums below a bound.
pub total_below_sum : (f g : ℕ → ℤ) (n : ℕ) → total_below (λ k. f k +ℤ g k) n ≡ total_below f n +ℤ total_below g n
total_below_sum f g zero = refl
total_below_sum f g (suc n) = omega (integers, total_below_sum f g n)

-- A sum of differences below a bound.
pub total_below_minus : (f g : ℕ → ℤ) (n : ℕ) → total_below (λ k. f k -ℤ g k) n ≡ total_below f n -ℤ total_below g n
total_below_minus f g zero = refl
total_below_minus f g (suc n) = omega (integers, total_below_minus f g n)

-- A sum of zeros below a bound.
pub total_below_none : (f : ℕ → ℤ) (n : ℕ) → ((k : ℕ) → k < n → f k ≡ pos 0) → total_below f n ≡ pos 0
total_below_none f zero none = refl
total_below_none f (suc n) none = search (rules, total_below_none f n (λ k l. none k (omega arith)))

-- One term alone counts.
pub total_below_one : (f : ℕ → ℤ) (n u : ℕ) → u < n → ((k : ℕ) → k < n → (k ≡ u → ⊥) → f k ≡ pos 0)
    → total_below f n ≡ f u
total_below_one f zero u l other = absurd (omega arith)
total_below_one f (suc n) u l other = grind (arith, total_below_none f n, total_below_one f n u)

-- The sums along a list and below a bound change places.
pub two_orders : {X : Type 0} (f : ℕ → X → ℤ) (n : ℕ) (xs : List X) → total (λ x. total_below (λ k. f k x) n) xs
    ≡ total_below (λ k. total (f k) xs) n
two_orders f n [] = sym (total_below_none (λ k. pos 0) n (λ k l. refl))
two_orders f n (x ∷ xs) = omega (integers, two_orders f n xs, total_below_sum (λ k. f k x) (λ k. total (f k) xs) n)

-- A whole number is negative or not.
pub cases_neg : (a : ℤ) → (a <ℤ pos 0) ⊎ (pos 0 ≤ℤ a)
cases_neg (pos n) = inr (omega integers)
cases_neg (negsuc n) = inl (omega integers)

-- A negative sum has a negative term.
pub some_below : (f : ℕ → ℤ) (n : ℕ) → total_below f n <ℤ pos 0 → (k : ℕ) × (k < n) × (f k <ℤ pos 0)
some_below f zero low = absurd (omega integers)
some_below f (suc n) low = grind (arith, common_steps, cases_neg (f n), some_below f n)

-- A run in two parts.
pub span_sum : (f : ℕ → ℤ) (a m n : ℕ) → span f a (m + n) ≡ span f a m +ℤ span f (a + m) n
span_sum f a zero n = rw (zero-add n, add-zero a) (omega integers)
span_sum f a (suc m) n =
    let there : suc m + n ≡ suc (m + n) = omega arith in
    let past : a + suc m ≡ a + 1 + m = omega arith in
    rw (there, past) (omega (integers, span_sum f (a + 1) m n))

-- A bound moved up by a run.
pub total_below_span : (f : ℕ → ℤ) (a n : ℕ) → total_below f (a + n) ≡ total_below f a +ℤ span f a n
total_below_span f a zero = rw (add-zero a) (omega integers)
total_below_span f a (suc n) =
    let there : a + suc n ≡ a + 1 + n = omega arith in
    let one : total_below f (a + 1) ≡ total_below f a +ℤ f a = rw (add-one a) refl in
    rw there (omega (integers, one, total_below_span f (a + 1) n))

-- Laws of counts.

-- Two lists in a row.
pub count_append : {X : Type 0} (f : X → ℕ) (xs ys : List X) → count f (xs ++ ys) ≡ count f xs + count f ys
count_append f [] ys = omega arith
count_append f (x ∷ xs) ys = omega (arith, count_append f xs ys)

-- A count as a sum of whole numbers.
pub count_total : {X : Type 0} (f : X → ℕ) (xs : List X) → pos (count f xs) ≡ total (λ x. pos (f x)) xs
count_total f [] = refl
count_total f (x ∷ xs) = omega (integers, count_total f xs)

-- A count below a bound as a sum of whole numbers.
pub count_below_total : (f : ℕ → ℕ) (n : ℕ) → pos (count_below f n) ≡ total_below (λ k. pos (f k)) n
count_below_total f zero = refl
count_below_total f (suc n) = omega (integers, count_below_total f n)

-- Equal terms below the bound have equal counts.
pub count_below_same : (f g : ℕ → ℕ) (n : ℕ) → ((k : ℕ) → k < n → f k ≡ g k) → count_below f n ≡ count_below g n
count_below_same f g n same = search (rules, count_below_total, total_below_same)

-- No term below the bound is greater, and so no count.
pub count_below_le : (f g : ℕ → ℕ) (n : ℕ) → ((k : ℕ) → k < n → f k ≤ g k) → count_below f n ≤ count_below g n
count_below_le f g zero le = omega arith
count_below_le f g (suc n) le = omega (arith, count_below_le f g n (λ k l. le k (omega arith)), le n (omega arith))

-- A count of sums below a bound.
pub count_below_sum : (f g : ℕ → ℕ) (n : ℕ) → count_below (λ k. f k + g k) n ≡ count_below f n + count_below g n
count_below_sum f g zero = refl
count_below_sum f g (suc n) = omega (arith, count_below_sum f g n)

-- A sum of zeros below a bound.
pub count_below_none : (f : ℕ → ℕ) (n : ℕ) → ((k : ℕ) → k < n → f k ≡ 0) → count_below f n ≡ 0
count_below_none f n none = search (rules, count_below_total, total_below_none)

-- No term is greater and one is less, and so is the sum.
pub count_below_lt : (f g : ℕ → ℕ) (n u : ℕ) → u < n → ((k : ℕ) → k < n → f k ≤ g k) → f u < g u
    → count_below f n < count_below g n
count_below_lt f g zero u l le lt = absurd (omega arith)
count_below_lt f g (suc n) u l le lt = grind (arith, count_below_le f g n, count_below_lt f g n u)

-- The first term of a count below a bound.
pub count_below_prefix : (f : ℕ → ℕ) (n : ℕ) → count_below f (suc n) ≡ f 0 + count_below (λ k. f (suc k)) n
count_below_prefix f zero = omega arith
count_below_prefix f (suc n) = omega (arith, count_below_prefix f n)

-- One term alone counts.
pub count_below_one : (f : ℕ → ℕ) (n u : ℕ) → u < n → ((k : ℕ) → k < n → (k ≡ u → ⊥) → f k ≡ 0) → count_below f n ≡ f u
count_below_one f n u l other = omega (
  integers,
  count_below_total f n,
  total_below_one (λ k. pos (f k)) n u l (λ k lk ne. ap pos (other k lk ne)),
)

-- A factor comes out of a count.
pub count_below_times : (c : ℕ) (f : ℕ → ℕ) (n : ℕ) → count_below (λ k. c * f k) n ≡ c * count_below f n
count_below_times c f zero = omega (arith, mul-zero c)
count_below_times c f (suc n) = omega (arith, count_below_times c f n, mul-add c (count_below f n) (f n))

-- One for each number below the bound.
pub count_below_ones : (n : ℕ) → count_below (λ k. 1) n ≡ n
count_below_ones zero = refl
count_below_ones (suc n) = omega (arith, count_below_ones n)
