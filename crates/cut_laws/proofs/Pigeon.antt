-- Strictly increasing numbers: each stands at one place, and two such with the same values are one.
use Rattle.std.proofs.Common.{rules, ◌≡◌, ℕ, zero, suc, ◌<◌, ◌≤◌, sym, inl, inr, arith, ◌⊎◌, cond, ◌==◌}
use Rattle.std.proofs.lemmas.Bool.{cases_eq, cases_lt}

-- Numbers of which neither is less are equal.
pub same_if : {a b : ℕ} → (a < b → ⊥) → (b < a → ⊥) → a ≡ b
same_if {a} {b} less more = search rules

-- Values below a bound differ if each differs from the earlier ones.
pub apart_if : (n : ℕ) (g : ℕ → ℕ) → ((i j : ℕ) → i < j → j < n → g i ≡ g j → ⊥) → (i j : ℕ) → i < n → j < n
    → g i ≡ g j → i ≡ j
apart_if n g later i j li lj e = same_if (λ l. later i j l lj e) (λ l. later j i l li (sym e))

-- The first n values rise.
pub record AreIncreasing (a : ℕ → ℕ) (n : ℕ) : Type 0 where
  pub step : (k : ℕ) → suc k < n → a k < a (suc k)

pub increasing_less : {a : ℕ → ℕ} {n : ℕ} → AreIncreasing a n → (j k : ℕ) → j < k → k < n → a j < a k
increasing_less r j zero l h = absurd (omega arith)
increasing_less {a} r j (suc k) l h = grind (arith, increasing_less r j k)

pub increasing_place : (a : ℕ → ℕ) (n : ℕ) → AreIncreasing a n → (j k : ℕ) → j < n → k < n → a j ≡ a k → j ≡ k
increasing_place a n r = apart_if n a (λ j k l lk e. let less = increasing_less r j k l lk in omega arith)

-- No value of one at place k is below that of the other, which has it too, if they agree before.
not_below : {a b : ℕ → ℕ} {n m : ℕ} → AreIncreasing a n → AreIncreasing b m → (k : ℕ) → k < n
    → ((i : ℕ) → i < k → a i ≡ b i) → (j : ℕ) → j < m → a k ≡ b j → b k ≤ a k
not_below {a} {b} {n} ra rb k ln same j lj e = grind (arith, increasing_place a n ra j k, increasing_less rb k j)

module _ (a b : ℕ → ℕ) (n m : ℕ) (ra : AreIncreasing a n) (rb : AreIncreasing b m) (there : (k : ℕ) → k < n
    → (j : ℕ) × (j < m) × (a k ≡ b j)) (back : (k : ℕ) → k < m → (j : ℕ) × (j < n) × (b k ≡ a j)) where
  same_below : (k : ℕ) → k ≤ n → k ≤ m → (i : ℕ) → i < k → a i ≡ b i
  same_below zero ln lm i l = absurd (omega arith)
  same_below (suc k) ln lm i l =
      grind (arith, same_below k, there k ln, back k lm, not_below ra rb k ln, not_below rb ra k lm)

  pub same_many : n ≡ m
  same_many = same_if (λ l. grind (arith, back n l, increasing_place b m rb n, same_below n))
      (λ l. grind (arith, there m l, increasing_place a n ra m, same_below m))

  pub same_values : (k : ℕ) → k < n → a k ≡ b k
  same_values k l = same_below n (omega arith) (let e = same_many in omega arith) k l

-- More places than numbers: some number comes twice, and a walk that never merges comes back to where it began.

-- Whether some number below n is sent to a value.
pub sent_or_not : (f : ℕ → ℕ) (v n : ℕ) → ((k : ℕ) × (k < n) × (f k ≡ v)) ⊎ ((k : ℕ) → k < n → f k ≡ v → ⊥)
sent_or_not f v zero = inr (λ k l e. omega arith)
sent_or_not f v (suc n) = grind (arith, cases_eq (f n) v, sent_or_not f v n)

-- The values of f, with the one past the end in place of n.
abbrev filled : (f : ℕ → ℕ) (n k : ℕ) → ℕ
filled f n k = cond (f k == n) (f (suc n)) (f k)

-- Two places below a bound have one number.
pub pigeon : (n : ℕ) (f : ℕ → ℕ) → ((k : ℕ) → k ≤ n → f k < n) → (i : ℕ) × (j : ℕ) × (i < j) × (j ≤ n) × (f i ≡ f j)
pigeon zero f low = absurd (let l : f 0 < 0 = low 0 (omega arith) in omega arith)
pigeon (suc n) f low = elim (sent_or_not f (f (suc n)) (suc n)) [
  | inl (k, k_low, e) ↦ (k, suc n, k_low, omega arith, e)
  | inr none ↦
      let low_too : (k : ℕ) → k ≤ n → filled f n k < n = search rules in
      search (rules, pigeon n (filled f n) low_too)
]

-- A walk through numbers below n, of which no two steps lead to one place, comes back to its start.
pub comes_back : (n : ℕ) (f : ℕ → ℕ) → ((k : ℕ) → k ≤ n → f k < n) → ((i j : ℕ) → i < n → j < n → f (suc i) ≡ f (suc j)
    → f i ≡ f j) → (k : ℕ) × (k < n) × (f (suc k) ≡ f 0)
comes_back n f low apart = let m = pigeon n f low in down m.0 m.1 m.2 m.3 m.4
  where
    down : (i j : ℕ) → i < j → j ≤ n → f i ≡ f j → (k : ℕ) × (k < n) × (f (suc k) ≡ f 0)
    down zero (suc j) l h e = (j, omega arith, sym e)
    down (suc i) (suc j) l h e = down i j (omega arith) (omega arith) (apart i j (omega arith) (omega arith) e)
    down _ zero l h e = absurd (omega arith)

-- Where a value stands among the first m.
abbrev place_in : (g : ℕ → ℕ) (m x : ℕ) → ℕ
place_in g zero x = 0
place_in g (suc m) x = cond (g m == x) m (place_in g m x)

place_there : (g : ℕ → ℕ) (m x : ℕ) → (j : ℕ) × (j < m) × (g j ≡ x) → (place_in g m x < m) × (g (place_in g m x) ≡ x)
place_there g zero x t = absurd (omega arith)
place_there g (suc m) x t = grind (arith, place_there g m x)

-- Values of which no two are equal, and which all stand among m others, are at most m.
pub no_more : (n m : ℕ) (f g : ℕ → ℕ) → ((i j : ℕ) → i < n → j < n → f i ≡ f j → i ≡ j)
    → ((i : ℕ) → i < n → (j : ℕ) × (j < m) × (g j ≡ f i)) → n ≤ m
no_more n m f g apart there = elim (cases_lt m n) [
  | inl l ↦
      let at = λ (i : ℕ) (l : i < n). place_there g m (f i) (there i l) in
      let (i, j, less, le, e) = pigeon m (λ i. place_in g m (f i)) (λ i h. (at i (omega arith)).0) in
      search (rules, at)
  | inr h ↦ h
]
