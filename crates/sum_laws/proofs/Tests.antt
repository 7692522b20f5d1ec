-- Tests that are the same, and tests as numbers.
use Rattle.std.proofs.Common.{◌≡◌, ◌≤◌, Bool, true, false, cond, refl, sym, arith}

-- Tests that follow from each other are equal.
pub same_test : (a b : Bool) → (a ≡ true → b ≡ true) → (b ≡ true → a ≡ true) → a ≡ b
same_test true b f h = sym (f refl)
same_test false true f h = h refl
same_test false false f h = refl

-- A test counts at most once.
pub once_at_most : (b : Bool) → cond b 1 0 ≤ 1
once_at_most b = grind (arith)
