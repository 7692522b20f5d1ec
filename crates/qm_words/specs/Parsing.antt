-- The clap command that reads options, and what its answers say of the words.
use Rattle.std.specs.Prelude.{◌≡◌, ◌==◌, not, Bool, true, [], ◌∷◌, Some, codes, map}
use Rattle.std.specs.List.{list_all, list_any}
use Rattle.std.specs.Str.{bytes_eq}
use Rattle.clap.specs.Matches.{first_value}
use Rattle.clap.specs.Simple.{new_rule, new_shape, App}
use Rattle.clap.specs.Walk.{Rule}
use Rattle.clap.specs.declared.parser.matches.Found.{Found}
use Rattle.def_run.specs.Options.{value_of, AreOptions, Uses}
use Rattle.def_text.specs.Types.{Word, Words}
use Rattle.def_text.specs.declared.letters.TheConstants.{MINUS}

-- The word that ends the options.
abbrev pub is_end : (word : Word) → Bool
is_end word = bytes_eq word (MINUS ∷ MINUS ∷ [])

-- clap's rule of an option that must stand and has one value.
abbrev pub option_rule : (name : Word) → Rule
option_rule name = record (new_rule name) { long = Some name; required = true }

-- The command with these options.
abbrev pub options_app : (names : Words) → App
options_app names = record {
  top = record (new_shape (codes "quadq")) {
    no_binary_name = true;
    disable_help_flag = true;
    rules = map option_rule names;
  };
  subs = [];
}

-- A value that clap takes in a word of its own.
abbrev pub is_plain : (value : Word) → Bool
is_plain [] = true
is_plain (byte ∷ _) = not (byte == MINUS)

-- One of these names.
abbrev pub is_known : (names : Words) (name : Word) → Bool
is_known names name = list_any (λ known. bytes_eq known name) names

-- The words are these options, once each, and these matches have their values.
pub record Reads (names words : Words) (found : Found) : Type 0 where
  pub uses : Uses
  pub options : AreOptions names words uses
  pub values : (name : Word) → is_known names name ≡ true → first_value found name ≡ Some (value_of name uses)

-- The words are not these options, once each, with values that may stand in words of their own.
abbrev pub Refuses : (names words : Words) → Type 0
Refuses names words = (uses : Uses) → AreOptions names words uses → list_all (λ one. is_plain one.value) uses ≡ true → ⊥
