-- Ratios of two whole numbers.
use Rattle.std.specs.Prelude.{◌≡◌, ◌≤◌, ℕ, ◌∷◌, ◌++◌, decimal}
use Rattle.def_text.specs.Types.{Word}
use Rattle.def_text.specs.declared.letters.TheConstants.{SLASH}
use Rattle.def_text.specs.declared.limits.TheConstants.{MAX_PART}

-- The word is `P/Q`, two whole numbers from 1 to 1000 as they are written without a leading zero.
pub record IsRatio (word : Word) (p q : ℕ) : Type 0 where
  pub written : word ≡ decimal p ++ SLASH ∷ decimal q
  pub p_low : 1 ≤ p
  pub p_high : p ≤ MAX_PART
  pub q_low : 1 ≤ q
  pub q_high : q ≤ MAX_PART
