-- How the head line of a fit is cut into words.
use Rattle.std.specs.Prelude.{◌≡◌, true, ◌++◌, codes}
use Rattle.def_text.specs.Types.{Word}
use Rattle.qm_certtext.specs.Cuts.{is_bare}

-- The line has these words behind its names.
pub record IsFitCut (line keep patches aim floor weight spacing : Word) : Type 0 where
  pub written : line ≡ codes "#quadq 1 fit keep " ++ (keep ++ (codes " patches " ++ (patches ++ (codes " aim "
      ++ (aim ++ (codes " floor " ++ (floor ++ (codes " weight " ++ (weight ++ (codes " spacing " ++ spacing))))))))))
  pub keep_bare : is_bare keep ≡ true
  pub patches_bare : is_bare patches ≡ true
  pub aim_bare : is_bare aim ≡ true
  pub floor_bare : is_bare floor ≡ true
  pub weight_bare : is_bare weight ≡ true
