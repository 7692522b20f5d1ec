-- The values of a line begin with no hyphen.
use Rattle.std.proofs.lemmas.{List.append-nil, Bool.cases_Bool, Bool.false≢true, Bool.and_parts, Bool.eqb-true}
use Rattle.std.proofs.Common.{Bool, arith, false, inl, inr, not, refl, true, ◌++◌, ◌<◌, ◌==◌, List, Option, Some, fold}
use Rattle.def_fit.specs.FitWords.{IsAimWord, IsEdgeLength, keep_word, patches_word, spacing_word}
use Rattle.std.specs.{Prelude.decimal, Prelude.ℤ, List.list_all, List.list_any, Char.is_ascii_digit}
use Rattle.std.proofs.{lemmas.Int.ints, Common.◌^◌, Common.◌∙◌, Common.◌∷◌, Common.◌≡◌, Common.◌≤◌, Common.[], Common.ℕ}
use Rattle.qm_words.proofs.{Words.same_name, Words.fault_at, Words.stands, Words.rules, Uses.pending, Uses.rows_of}
use Rattle.def_run.specs.{Options.AreOptions, Options.count_of, Options.value_of, Options.is_of, Options.Uses}
use Rattle.def_certtext.specs.{Settings.weight_text, Settings.floor_text, Settings.IsFloor}
use Rattle.clap.specs.Walk.{walked}
use Rattle.clap.specs.{declared.error.kind.ErrorKind.ErrorKind, Walk.settled_rows, Kinds.or_else, Faults.settle_fault}
use Rattle.clap.specs.{Walk.option, Walk.idle, Walk.Held, Walk.Walk, Kinds.Kinds, Faults.turn_fault, Faults.walk_fault}
use Rattle.qm_words.{specs.Parsing.is_known, specs.Parsing.is_plain, specs.Parsing.Refuses, proofs.Words.shape}
use Rattle.{def_patches.specs.declared.Patches.Patches, def_fit.specs.declared.fit.Spacing.Spacing, clap.specs.Walk.Row}
use Rattle.{qm_dec.proofs.ReadBack.decimal_digits, def_text.specs.Types.Word, def_flow.specs.declared.net.Weight.Weight}
use Rattle.{qm_words.proofs.Words.among, qm_dec.proofs.ReadBack.digit_other, def_patches.specs.declared.Keep.Keep}
use Rattle.{def_text.specs.Types.Words, def_run.specs.Options.Use, def_fit.specs.declared.fit.Aim.Aim}
use Rattle.{std.proofs.Common.ap}

-- The option of a use.
pub name_in : (names : Words) (one : Use) → list_any (λ name. is_of name one) names ≡ true → (name : Word)
    × (is_known names name ≡ true) × (is_of name one ≡ true)
name_in [] one some = absurd (false≢true some)
name_in (name ∷ names) one some = elim (cases_Bool (is_of name one)) [
  | inl is ↦ (name, grind (arith, same_name name), is)
  | inr other ↦ let later = name_in names one (rw other at some) in (later.0, grind arith, later.2)
]

-- Each value is that of its option, which is used once.
each_plain : (names : Words) (uses : Uses) → list_all (λ (one : Use). list_any (λ name. is_of name one) names) uses
    ≡ true → ((name : Word) → is_known names name ≡ true → count_of name uses ≤ 1)
    → ((name : Word) → is_known names name ≡ true → 1 ≤ count_of name uses → is_plain (value_of name uses) ≡ true)
    → list_all (λ (one : Use). is_plain one.value) uses ≡ true
each_plain names [] all once plain = refl
each_plain names (one ∷ uses) all once plain =
    let parts = and_parts (list_any (λ name. is_of name one) names) _ all in
    let own = name_in names one parts.0 in
    let first = plain own.0 own.1 in
    let later = each_plain names uses parts.1 (λ name known. omega (arith, once name known)) (λ name known some.
    grind (arith, once name known, plain name known)) in grind arith

-- So what clap refuses is no line with such values.
pub no_line : {names words : Words} {uses : Uses} → Refuses names words → AreOptions names words uses
    → list_all (λ name. is_plain (value_of name uses)) names ≡ true → ⊥
no_line {names} {words} {uses} refuses line plain =
    let parts = and_parts (list_all (λ n. count_of n uses == 1) names) _ line.once in
    refuses uses line (each_plain names uses parts.1
    (λ name known. omega (arith, eqb-true _ 1 (among (λ n. count_of n uses == 1) names name parts.0 known)))
    (λ name known _. among (λ n. is_plain (value_of n uses)) names name plain known))

-- Digits begin with no hyphen, and so does what begins with them.
pub digits_plain : (digits : Word) (behind : Word) → list_all is_ascii_digit digits ≡ true → is_plain behind ≡ true
    → is_plain (digits ++ behind) ≡ true
digits_plain [] behind all plain = plain
digits_plain (digit ∷ digits) behind all plain =
    ap not (digit_other 45 (omega arith) digit (and_parts (is_ascii_digit digit) _ all).0)

pub number_plain : (n : ℕ) → n < 2 ^ 64 → is_plain (decimal n) ≡ true
number_plain n low = rw append-nil at (digits_plain (decimal n) [] (decimal_digits n low) refl)

pub floor_plain : (floor : ℕ) (auto : Bool) → IsFloor floor auto → is_plain (floor_text floor auto) ≡ true
floor_plain floor auto may = grind (arith, number_plain floor)

pub weight_plain : (weight : Weight) → is_plain (weight_text weight) ≡ true
weight_plain weight = grind arith

-- A length above 0 has no minus.
pub edge_plain : (word : Word) (edge : ℤ) → IsEdgeLength word edge → is_plain word ≡ true
edge_plain word edge is = grind (arith, ints)

-- The words of a fit begin with letters.
pub keep_plain : (keep : Keep) → is_plain (keep_word keep) ≡ true
keep_plain keep = grind arith

pub patches_plain : (patches : Patches) → is_plain (patches_word patches) ≡ true
patches_plain patches = grind arith

pub spacing_plain : (spacing : Spacing) → is_plain (spacing_word spacing) ≡ true
spacing_plain spacing = grind arith

pub aim_plain : (word : Word) (aim : Aim) → IsAimWord word aim → is_plain word ≡ true
aim_plain word aim is = grind arith

-- clap's walk over words: where it passes, and its first step.

-- What is held behind the words.
abbrev pub end : (names : Words) (from : Walk) (words : Words) → Held
end names from words = (fold (walked (rules names) []) from words).held

-- The rows there, with what is pending.
abbrev pub end_rows : (names : Words) (from : Walk) (words : Words) → List Row
end_rows names from words = settled_rows (rules names) (end names from words).pending (end names from words).rows

-- No word has a fault, and what is pending at the end has none.
pub record Passes (names words : Words) (from : Walk) : Type 0 where
  pub walked : walk_fault (shape names) [] from words ≡ []
  pub settled : settle_fault (rules names) false (end names from words) ≡ []

-- Between two words: some uses were read and one is pending.
abbrev pub rests : (uses : Uses) (last : Option Use) → Walk
rests uses last = stands (rows_of uses) (pending last) idle

-- Behind the name of an option, before its value.
abbrev pub waits : (uses : Uses) (id : Word) → Walk
waits uses id = stands (rows_of uses) (Some (id, [])) (option id)

-- Both parts pass where the whole does.
pub both_quiet : (a b : Kinds) → or_else a b ≡ [] → (a ≡ []) × (b ≡ [])
both_quiet a b quiet = grind arith

pub quiet_both : (a b : Kinds) → a ≡ [] → b ≡ [] → or_else a b ≡ []
quiet_both a b one two = ap (λ (k : Kinds). or_else k b) one ∙ two

-- The first word passes, and then the others.
pub first_passes : (names : Words) (word : Word) (words : Words) (from : Walk) → Passes names (word ∷ words) from
    → (fault_at names from word ≡ []) × Passes names words (walked (rules names) [] from word)
unfolding walk_fault
first_passes names word words from passes =
    let both = both_quiet (turn_fault (shape names) [] from word) _ passes.walked in
    (both.0, record { walked = both.1; settled = passes.settled })

pub passes_first : (names : Words) (word : Word) (words : Words) (from : Walk) → fault_at names from word ≡ []
    → Passes names words (walked (rules names) [] from word) → Passes names (word ∷ words) from
unfolding walk_fault
passes_first names word words from first passes = record {
  walked = quiet_both (turn_fault (shape names) [] from word) _ first passes.walked;
  settled = passes.settled;
}

-- A word with a fault does not pass.
pub stops : {X : Type 0} (names : Words) (word : Word) (words : Words) (from : Walk) {kind : ErrorKind}
    → Passes names (word ∷ words) from → fault_at names from word ≡ kind ∷ [] → X
stops names word words from passes is = absurd (cc ((first_passes names word words from passes).0, is))
