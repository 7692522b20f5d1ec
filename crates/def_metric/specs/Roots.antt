-- Whole square roots.
use Rattle.std.specs.Prelude.{◌≡◌, ℕ, zero, suc, ◌+◌, ◌*◌, ◌/◌, ◌^◌, ◌<◌, ◌≤◌, nat_le, cond}

-- r is the greatest whole number whose square is at most n.
pub record IsRoot (n r : ℕ) : Type 0 where
  pub low : r * r ≤ n
  pub high : n < (r + 1) * (r + 1)

-- The greater of 2 * r and 2 * r + 1 whose square is at most n, if r is the root of a quarter of n.
abbrev pub doubled_root : (n r : ℕ) → ℕ
doubled_root n r = cond (nat_le ((2 * r + 1) * (2 * r + 1)) n) (2 * r + 1) (2 * r)

-- The root of a number with at most so many digits to the base 4.
abbrev pub root_within : (digits n : ℕ) → ℕ
root_within zero n = 0
root_within (suc digits) n = doubled_root n (root_within digits (n / 4))

-- The root of a number below 2 ^ 128.
abbrev pub root_of : (n : ℕ) → ℕ
root_of n = root_within 64 n

-- It is the root, and a number has one root.
abbrev pub WholeRootLaw : Type 0
WholeRootLaw = (n : ℕ) → n < 2 ^ 128 → IsRoot n (root_of n) × ((r : ℕ) → IsRoot n r → r ≡ root_of n)
