-- How a head line is cut into words.
use Rattle.std.specs.Prelude.{◌≡◌, ◌==◌, not, Bool, true, ◌++◌, codes}
use Rattle.std.specs.List.{list_all}
use Rattle.def_certtext.specs.Settings.{floor_text, scale_text, weight_text}
use Rattle.def_flow.specs.declared.net.Settings.{Settings}
use Rattle.def_text.specs.Types.{Word}
use Rattle.def_text.specs.declared.letters.TheConstants.{SPACE}

-- A word without a space.
abbrev pub is_bare : (word : Word) → Bool
is_bare word = list_all (λ byte. not (byte == SPACE)) word

-- The line has this prefix, and behind it these words of a scale, a floor and a weight.
pub record IsCut (prefix line scale floor weight : Word) : Type 0 where
  pub written : line ≡ prefix ++ (scale ++ (codes " floor " ++ (floor ++ (codes " weight " ++ weight))))
  pub scale_bare : is_bare scale ≡ true
  pub floor_bare : is_bare floor ≡ true

-- The line with the words of settings behind a prefix.
abbrev pub asked_line : (prefix : Word) (settings : Settings) (auto : Bool) → Word
asked_line prefix settings auto =
    prefix ++ scale_text settings ++ codes " floor " ++ floor_text settings.floor auto
    ++ codes " weight " ++ weight_text settings.weight
