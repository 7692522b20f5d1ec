-- Searches in tables of starts.
use Rattle.std.proofs.Common.{rules, ◌≡◌, ◌⊎◌, ℕ, zero, suc, ◌+◌, ◌-◌, ◌<◌, ◌≤◌, List, length, ◌∙◌, ap, inl, inr, arith}
use Rattle.std.proofs.lemmas.Bool.{cases_eq, cond-true, lt-ltb}
use Rattle.written_laws.proofs.Spacings.{count_rises, run_from, run_to}
use Rattle.{std.specs.Prelude.nat_lt, std.specs.Prelude.slice_index, def_math.specs.Counts.count_below}
use Rattle.{def_math.specs.Runs.run_at, def_remesh.specs.Numberings.AreRunStarts, sum_laws.proofs.Sums.count_below_same}

-- The run that begins at or before a place, and ends behind it, holds it.
pub spot_between : (f : ℕ → ℕ) (n t k : ℕ) → k < n → (k ≡ 0) ⊎ (count_below f k ≤ t)
    → (k + 1 ≡ n) ⊎ (t < count_below f (k + 1)) → run_at (count_below f) n t ≡ k
spot_between f zero t k low from to = absurd (omega arith)
spot_between f (suc n) t k low from to = elim (cases_eq k n) [
  | inl e ↦ at_last e from
  | inr ne ↦
      let before : k < n = omega arith in
      cond-true (nat_lt t (count_below f n)) _ _ (lt-ltb _ _ (below before to))
      ∙ spot_between f n t k before from (onward before to)
]
  where
    at_last : k ≡ n → (k ≡ 0) ⊎ (count_below f k ≤ t) → run_at (count_below f) (suc n) t ≡ k
    at_last e (inl z) = search rules
    at_last e (inr le) = search rules

    below : k < n → (k + 1 ≡ suc n) ⊎ (t < count_below f (k + 1)) → t < count_below f n
    below before (inl e) = absurd (omega arith)
    below before (inr less) = omega (arith, count_rises f (k + 1) n (omega arith))

    onward : k < n → (k + 1 ≡ suc n) ⊎ (t < count_below f (k + 1)) → (k + 1 ≡ n) ⊎ (t < count_below f (k + 1))
    onward before (inl e) = absurd (omega arith)
    onward before (inr less) = inr less

-- A place up to the end lies no farther behind the beginning of its run than the run is long.
pub within_run : (f : ℕ → ℕ) (n t : ℕ) → 0 < n → t ≤ count_below f n → (count_below f (run_at (count_below f) n t) ≤ t)
    × (t - count_below f (run_at (count_below f) n t) ≤ f (run_at (count_below f) n t))
within_run f n t some le = search (rules, run_to, run_from)

-- Counts, one by one.
pub count_step : (f : ℕ → ℕ) (k : ℕ) → count_below f (k + 1) ≡ count_below f k + f k
count_step f k = let e : k + 1 ≡ suc k = omega arith in ap (count_below f) e

pub term_room : (f : ℕ → ℕ) (n k : ℕ) → k < n → count_below f k + f k ≤ count_below f n
term_room f n k low = count_rises f (suc k) n (omega (arith, low))

-- The end of the last run.
pub last_is : (f : ℕ → ℕ) (n : ℕ) (starts : List ℕ) → AreRunStarts f n starts → slice_index starts (length starts - 1)
    ≡ count_below f n
last_is f n starts are = search rules

-- There is room for another run.
pub next_room : (f : ℕ → ℕ) (n k : ℕ) (starts : List ℕ) → k < n → AreRunStarts f k starts
    → slice_index starts (length starts - 1) + f k ≤ count_below f n
next_room f n k starts low are = omega (arith, last_is f k starts are, term_room f n k low)

-- Starts of other sizes that are the same.
pub starts_same : (f g : ℕ → ℕ) (n : ℕ) (starts : List ℕ) → ((k : ℕ) → k < n → f k ≡ g k) → AreRunStarts f n starts
    → AreRunStarts g n starts
starts_same f g n starts same are = search (rules, count_below_same)
