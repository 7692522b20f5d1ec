-- The options of a command line: each has one value, in the next word or behind `=`.
use Rattle.std.specs.Prelude.{◌≡◌, ℕ, ◌+◌, ◌==◌, ◌&&◌, Bool, true, if◌then◌else◌, Option, Some, None, List, [], ◌∷◌}
use Rattle.std.specs.Prelude.{find, option_map}
use Rattle.std.specs.List.{after_first, before_first, list_all, list_any}
use Rattle.std.specs.Option.{option_map_or}
use Rattle.std.specs.Str.{bytes_eq}
use Rattle.def_text.specs.Types.{Word, Words}
use Rattle.def_text.specs.declared.letters.TheConstants.{MINUS}
use Rattle.def_run.specs.declared.command.TheConstants.{EQUALS}

-- The use of an option: its name, with the hyphens, and its value.
pub record Use : Type 0 where
  pub name : Word
  pub value : Word

-- Uses in their order.
abbrev pub Uses : Type 0
Uses = List Use

-- The sign between a name and a value in one word.
abbrev pub is_equals : (byte : ℕ) → Bool
is_equals byte = byte == EQUALS

-- The word `--name=value`, cut at its first `=`.
abbrev pub attached : (word : Word) → Use
attached word = record { name = before_first is_equals word; value = after_first is_equals word }

-- The two words `--name value`.
abbrev pub separate : (word next : Word) → Use
separate word next = record { name = word; value = next }

-- A use in front of those that are spelled behind it.
abbrev pub use_in_front : (first : Use) (rest : Option Uses) → Option Uses
use_in_front first rest = option_map (λ uses. first ∷ uses) rest

-- The uses that the words spell, where no name stands at the end without a value.
abbrev pub uses_of : (words : Words) → Option Uses
uses_of [] = Some []
uses_of (word ∷ []) = if list_any is_equals word then Some (attached word ∷ []) else None
uses_of (word ∷ next ∷ rest) =
    if list_any is_equals word then use_in_front (attached word) (uses_of (next ∷ rest))
    else use_in_front (separate word next) (uses_of rest)

-- A name with its hyphens.
abbrev pub dashed : (name : Word) → Word
dashed name = MINUS ∷ MINUS ∷ name

-- The use of this option.
abbrev pub is_of : (name : Word) (one : Use) → Bool
is_of name one = bytes_eq one.name (dashed name)

-- How often an option is used.
abbrev pub count_of : (name : Word) (uses : Uses) → ℕ
count_of name [] = 0
count_of name (one ∷ uses) = (if is_of name one then 1 else 0) + count_of name uses

-- Each of these options is used once, and no other is.
abbrev pub are_once : (names : Words) (uses : Uses) → Bool
are_once names uses =
    list_all (λ name. count_of name uses == 1) names && list_all (λ one. list_any (λ name. is_of name one) names) uses

-- The words are these options, once each and in any order.
pub record AreOptions (names words : Words) (uses : Uses) : Type 0 where
  pub spelled : uses_of words ≡ Some uses
  pub once : are_once names uses ≡ true

-- The value of an option.
abbrev pub value_of : (name : Word) (uses : Uses) → Word
value_of name uses = option_map_or (λ one. one.value) (find (is_of name) uses) []
