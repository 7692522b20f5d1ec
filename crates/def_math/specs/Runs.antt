-- Runs of numbers, laid end to end from 0.
use Rattle.std.specs.Prelude.{ℕ, zero, suc, cond, nat_lt}

-- Which of so many runs holds place t: the last one that begins at or before it, where run k begins at `start k`.
abbrev pub run_at : (start : ℕ → ℕ) (runs t : ℕ) → ℕ
run_at start zero t = 0
run_at start (suc n) t = cond (nat_lt t (start n)) (run_at start n t) n
