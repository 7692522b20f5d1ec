-- The words of a line.
use Rattle.std.specs.Prelude.{ℕ, Bool, true, ◌==◌, ◌||◌, if◌then◌else◌, [], ◌∷◌}
use Rattle.def_io.specs.Bytes.{Bytes}
use Rattle.def_io.specs.Lines.{byte_in_front}
use Rattle.def_text.specs.Types.{Words}
use Rattle.def_text.specs.declared.letters.TheConstants.{SPACE, TAB}

-- Space and tab are the blanks.
abbrev pub is_blank : (byte : ℕ) → Bool
is_blank byte = (byte == SPACE) || (byte == TAB)

-- Nothing follows, or a blank.
abbrev pub ends_word : (bytes : Bytes) → Bool
ends_word [] = true
ends_word (byte ∷ _) = is_blank byte

-- The words of a text: its longest runs of bytes that are no blanks.
abbrev pub words : (text : Bytes) → Words
words [] = []
words (byte ∷ bytes) =
    if is_blank byte then words bytes
    else (if ends_word bytes then (byte ∷ []) ∷ words bytes else byte_in_front byte (words bytes))
