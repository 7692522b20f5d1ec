-- Prefix sums, and counts along the first part of a list.
use Rattle.std.proofs.{lemmas.Grind.common_steps, lemmas.Bool.cases_eq}
use Rattle.std.proofs.Common.{◌≡◌, ℕ, zero, suc, ◌+◌, ◌<◌, ◌≤◌, List, length, get_or, take, inl, inr, arith}
use Rattle.{def_math.specs.Counts.count, def_math.specs.Counts.count_below, sum_laws.proofs.Sums.count_append}

-- A sum below a greater bound is no smaller.
pub count_below_up : (f : ℕ → ℕ) (v n : ℕ) → v ≤ n → count_below f v ≤ count_below f n
count_below_up f v zero le = let e : v ≡ 0 = omega arith in rw e (omega arith)
count_below_up f v (suc n) le = elim (cases_eq v (suc n)) [
  | inl e ↦ rw e (omega arith)
  | inr ne ↦ omega (arith, count_below_up f v n (omega arith))
]

-- A term and all before it are no more than the whole.
pub part_low : (f : ℕ → ℕ) (v n : ℕ) → v < n → count_below f v + f v ≤ count_below f n
part_low f v n l = count_below_up f (suc v) n (omega arith)

-- One element more is counted.
pub count_take : {X : Type 0} (f : X → ℕ) (d : X) (xs : List X) (i : ℕ) → i < length xs → count f (take (i + 1) xs)
    ≡ count f (take i xs) + f (get_or xs i d)
count_take f d xs i l = grind (arith, common_steps, count_append)
