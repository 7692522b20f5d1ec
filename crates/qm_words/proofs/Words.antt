-- The command of options as clap builds it, and the rules that it finds.
use Rattle.clap.specs.declared.error.kind.ErrorKind.TheVariants.{InvalidValue, UnknownArgument}
use Rattle.clap.specs.declared.builder.action.ArgAction.TheVariants.{Set}
use Rattle.std.specs.List.{list_all, list_any, after_first, before_first, position_or_len}
use Rattle.std.proofs.lemmas.{Slice.Eq.bytes_eq-Decides, Bool.cases_Bool, Bool.false≢true, Bool.eqb-true}
use Rattle.std.proofs.Common.{Bool, List, None, Some, ap₂, codes, false, refl, true, ◌&&◌, ℕ, Option, arith, ◌==◌, cond}
use Rattle.std.proofs.Common.{inl, inr, map, not, ◌∙◌, ◌∷◌, ◌≡◌, suc, ◌+◌, [], ap}
use Rattle.qm_words.specs.Parsing.{is_known, option_rule, options_app, is_end, is_plain}
use Rattle.def_run.specs.Options.{Use, attached, dashed, is_equals, separate, use_in_front, uses_of}
use Rattle.clap.specs.Walk.{Rule, arg_by_index, arg_by_long, arg_by_short, is_early_multiple, bundle_met, settled_rows}
use Rattle.clap.specs.Walk.{arg_by_id, Held, Waiting, option, walked, Row, Walk, idle, used, has_long}
use Rattle.clap.specs.Simple.{Shape, built, filled_from, is_buildable, is_ready, is_ready_leaf, is_simple, new_shape}
use Rattle.clap.specs.Faults.{is_simple_and_free, flags_fault, settle_fault, turn_fault, use_fault}
use Rattle.std.specs.{Str.bytes_eq, Str.chars, Prelude.slice_get, Prelude.is_some, Prelude.find}
use Rattle.clap.specs.{Simple.App, Lexer.short_of, Lexer.long_of, Kinds.or_else, Kinds.Kinds}
use Rattle.{std.proofs.Math.Bool.or-false, def_text.specs.Types.Words, def_text.specs.Types.Word}
use Rattle.clap.specs.declared.builder.value_parser.ValueParser.TheVariants as vp

-- The rule of an option in a command that is built.
abbrev pub full_rule : (name : Word) → Rule
full_rule name = record (option_rule name) {
  action = Some Set;
  range = Some (record { start_inclusive = 1; end_inclusive = 1 });
  parser = Some vp.String;
}

abbrev pub rules : (names : Words) → List Rule
rules names = map full_rule names

-- The command that is built.
abbrev pub shape : (names : Words) → Shape
shape names = record (new_shape (codes "quadq")) {
  no_binary_name = true;
  disable_help_flag = true;
  disable_help_subcommand = true;
  is_built = true;
  rules = rules names;
}

filled_is : (i : ℕ) (names : Words) → filled_from i (map option_rule names) ≡ rules names
filled_is i [] = refl
filled_is i (name ∷ names) = ap (λ (rs : List Rule). full_rule name ∷ rs) (filled_is i names)

pub built_is : (names : Words) → built (options_app names) ≡ record { top = shape names; subs = [] }
built_is names = ap (λ (rs : List Rule). record { top = record (shape names) { rules = rs }; subs = [] })
    (filled_is 1 names)

all_mapped : (f : Word → Rule) (p : Rule → Bool) → ((name : Word) → p (f name) ≡ true) → (names : Words)
    → list_all p (map f names) ≡ true
all_mapped f p each [] = refl
all_mapped f p each (name ∷ names) = grind (arith, each name, all_mapped f p each names)

no_early : (n : ℕ) (names : Words) → list_any (is_early_multiple n) (rules names) ≡ false
no_early n [] = refl
no_early n (name ∷ names) = no_early n names

-- clap's contract speaks of it exactly.
pub simple : (names : Words) → is_simple (options_app names) ≡ true
simple names =
    let buildable : is_buildable (options_app names) ≡ true = ap (λ b. b && true) (all_mapped option_rule
    (λ (a : Rule). a.is_simple) (λ name. refl) names) in
    let ready : (is_ready (shape names) && true) ≡ true = ap₂ (λ b c. (b && not c) && true)
    (all_mapped full_rule (λ (a : Rule). a.is_simple) (λ name. refl) names) (no_early _ names) in
    ap₂ (λ b c. b && c) buildable (ap (λ (a : App). is_ready a.top && list_all is_ready_leaf a.subs) (built_is names)
    ∙ ready)

pub simple_free : (names : Words) → is_simple_and_free (options_app names) ≡ true
simple_free names =
    grind (arith, simple names, built_is names, all_mapped full_rule (λ (a : Rule). a.is_free) (λ name. refl) names)

pub same_name : (name : Word) → bytes_eq name name ≡ true
same_name name = (bytes_eq-Decides name name).1 refl

-- What all of these names have, each of them has.
pub among : (p : Word → Bool) (names : Words) (name : Word) → list_all p names ≡ true → is_known names name ≡ true
    → p name ≡ true
among p [] name all known = absurd (false≢true known)
among p (n ∷ names) name all known = grind (arith, (bytes_eq-Decides n name).0, among p names name)

-- The rule that passes a test for this name.
rule_found : (p : Rule → Bool) (id : Word) → ((name : Word) → p (full_rule name) ≡ bytes_eq name id) → (names : Words)
    → find p (rules names) ≡ cond (is_known names id) (Some (full_rule id)) None
rule_found p id test [] = refl
rule_found p id test (name ∷ names) =
    grind (arith, test name, (bytes_eq-Decides name id).0, rule_found p id test names)

-- The rule with this id, and that of this long name.
pub by_id : (names : Words) (id : Word) → is_known names id ≡ true → arg_by_id (rules names) id ≡ Some (full_rule id)
by_id names id known = rule_found (λ a. bytes_eq a.id id) id (λ name. refl) names ∙ rw known refl

by_name : (names : Words) (long : Word)
    → arg_by_long (rules names) long ≡ cond (is_known names long) (Some (full_rule long)) None
by_name names long = rule_found (λ a. not (is_some a.index) && has_long a long) long
    (λ name. or-false (bytes_eq name long)) names

-- There is none of a letter or of a position.
pub no_short : (names : Words) (letter : ℕ) → arg_by_short (rules names) letter ≡ None
no_short [] letter = refl
no_short (name ∷ names) letter = no_short names letter

pub no_index : (names : Words) (i : ℕ) → arg_by_index (rules names) i ≡ None
no_index [] i = refl
no_index (name ∷ names) i = no_index names i

-- One word's step of clap's walk, in each state: its fault, and the state behind it.

-- An option with the values that it has so far.
abbrev pub Pending : Type 0
Pending = Option (Word × List Word)

abbrev pub held : (rows : List Row) (pending : Pending) → Held
held rows pending = record { rows = rows; pending = pending; skip = 0 }

-- Between two words.
abbrev pub stands : (rows : List Row) (pending : Pending) (waiting : Waiting) → Walk
stands rows pending waiting =
    record { held = held rows pending; waiting = waiting; position = 1; is_trailing = false; stopped = None }

abbrev pub fault_at : (names : Words) (walk : Walk) (word : Word) → Kinds
fault_at names walk word = turn_fault (shape names) [] walk word

abbrev pub settle : (names : Words) (rows : List Row) (pending : Pending) → Kinds
settle names rows pending = settle_fault (rules names) false (held rows pending)

module _ (names : Words) (rows : List Row) (pending : Pending) (word : Word) (e : is_end word ≡ false) where
  -- `--name`
  pub flag_step : (waiting : Waiting) (name : Word) → long_of word ≡ Some (name, None) → is_known names name ≡ true
      → (fault_at names (stands rows pending waiting) word ≡ or_else (settle names rows pending) [])
      × (walked (rules names) [] (stands rows pending waiting) word
      ≡ stands (settled_rows (rules names) pending rows) (Some (name, [])) (option name))
  unfolding walked
  flag_step idle name l there = rw (e, l, by_name names name, there) (refl, refl)
  flag_step _ name l there = rw (e, l, by_name names name, there) (refl, refl)

  -- `--name=value`
  pub pair_step : (waiting : Waiting) (name value : Word) → long_of word ≡ Some (name, Some value)
      → is_known names name ≡ true → (fault_at names (stands rows pending waiting) word ≡ or_else
      (or_else (settle names rows pending) (use_fault false (full_rule name) (value ∷ [])
      (settled_rows (rules names) pending rows))) []) × (walked (rules names) [] (stands rows pending waiting) word
      ≡ stands (used (full_rule name) (value ∷ []) (settled_rows (rules names) pending rows)) None idle)
  unfolding walked
  pair_step idle name value l there = rw (e, l, by_name names name, there) (refl, refl)
  pair_step _ name value l there = rw (e, l, by_name names name, there) (refl, refl)

  -- A name that no option has.
  pub unknown_fault : (waiting : Waiting) (name : Word) (value : Option Word) → long_of word ≡ Some (name, value)
      → is_known names name ≡ false → fault_at names (stands rows pending waiting) word ≡ UnknownArgument ∷ []
  unknown_fault idle name value l off = rw (e, l, by_name names name, off) refl
  unknown_fault _ name value l off = rw (e, l, by_name names name, off) refl

  -- A word that is no option, where none waits for a value.
  pub stray_fault : long_of word ≡ None → short_of word ≡ None
      → fault_at names (stands rows pending idle) word ≡ UnknownArgument ∷ []
  stray_fault l s = rw (e, l, s, no_index names 1) refl

  -- `-letters`
  pub short_fault : (waiting : Waiting) (byte : ℕ) (bytes : Word) (letter : ℕ) → long_of word ≡ None
      → short_of word ≡ Some (byte ∷ bytes) → slice_get (chars (byte ∷ bytes)) 0 ≡ Some letter
      → fault_at names (stands rows pending waiting) word ≡ UnknownArgument ∷ []
  unfolding bundle_met flags_fault
  short_fault idle byte bytes letter l s c = rw (e, l, s, c, no_short names letter) refl
  short_fault _ byte bytes letter l s c = rw (e, l, s, c, no_short names letter) refl

  -- The same where the letters are none, and nothing waits.
  pub garbled_fault : (byte : ℕ) (bytes : Word) → long_of word ≡ None → short_of word ≡ Some (byte ∷ bytes)
      → slice_get (chars (byte ∷ bytes)) 0 ≡ None
      → fault_at names (stands rows pending idle) word ≡ UnknownArgument ∷ []
  unfolding bundle_met flags_fault
  garbled_fault byte bytes l s c = rw (e, l, s, c, no_index names 1) refl

-- The name of an option stands before its value.
module _ (names : Words) (rows : List Row) (id : Word) (known : is_known names id ≡ true) where
  -- A word that is no option is the value of the one that waits.
  pub value_step : (word : Word) → is_end word ≡ false → long_of word ≡ None → short_of word ≡ None
      → (fault_at names (stands rows (Some (id, [])) (option id)) word ≡ []) × (walked (rules names) []
      (stands rows (Some (id, [])) (option id)) word ≡ stands rows (Some (id, word ∷ [])) idle)
  unfolding walked
  value_step word e l s = rw (e, l, s, by_id names id known, same_name id) (refl, refl)

  pub garbled_value_walk : (word : Word) (byte : ℕ) (bytes : Word) → is_end word ≡ false → long_of word ≡ None
      → short_of word ≡ Some (byte ∷ bytes) → slice_get (chars (byte ∷ bytes)) 0 ≡ None
      → walked (rules names) [] (stands rows (Some (id, [])) (option id)) word ≡ stands rows (Some (id, word ∷ [])) idle
  unfolding walked bundle_met
  garbled_value_walk word byte bytes e l s c = rw (e, l, s, c, by_id names id known, same_name id) refl

  -- Before it has one, nothing else may come.
  pub waits_fault : settle names rows (Some (id, [])) ≡ InvalidValue ∷ []
  waits_fault = rw (by_id names id known) refl

-- What a word is to clap, and what it is as the use of an option.

-- A use, with the hyphens in front of its name.
abbrev pub with_hyphens : (bare : Use) → Use
with_hyphens bare = record { name = dashed bare.name; value = bare.value }

-- What a word is to clap.
pub data View (word : Word) : Type 0 where
  plain : long_of word ≡ None → short_of word ≡ None → View word
  short : (byte : ℕ) (bytes : Word) → long_of word ≡ None → short_of word ≡ Some (byte ∷ bytes) → View word
  flag : (name : Word) → long_of word ≡ Some (name, None) → word ≡ dashed name → list_any is_equals word ≡ false
      → View word
  pair : (name value : Word) → long_of word ≡ Some (name, Some value)
      → attached word ≡ record { name = dashed name; value = value } → list_any is_equals word ≡ true → View word
  dashes : is_end word ≡ true → View word

-- Nothing is cut where there is no `=`.
pub before_all : (word : Word) → list_any is_equals word ≡ false → before_first is_equals word ≡ word
before_all [] none = refl
before_all (byte ∷ bytes) none =
    let e : 1 + position_or_len is_equals bytes ≡ suc (position_or_len is_equals bytes) = omega arith in
    grind (arith, e, before_all bytes)

-- The two hyphens stay in front.
pub attached_dashed : (rest : Word) → attached (dashed rest) ≡ record {
  name = dashed (before_first is_equals rest);
  value = after_first is_equals rest;
}
attached_dashed rest =
    let n = position_or_len is_equals rest in
    let e : 1 + (1 + n) ≡ suc (suc n) = omega arith in
    let f : 1 + (1 + n) + 1 ≡ suc (suc (n + 1)) = omega arith in rw (f, e) refl

long_view : (byte : ℕ) (bytes : Word) → View (dashed (byte ∷ bytes))
long_view byte bytes = elim (cases_Bool (list_any is_equals (byte ∷ bytes))) [
  | inl some ↦ pair _ _ (rw some refl) (attached_dashed (byte ∷ bytes)) some
  | inr none ↦ flag (byte ∷ bytes) (grind (arith, before_all (byte ∷ bytes))) refl none
]

hyphen_view : (y : ℕ) (ys : Word) → View (45 ∷ y ∷ ys)
hyphen_view y ys = elim (cases_Bool (y == 45)) [
  | inl is ↦ rw (eqb-true y 45 is) (by_rest ys)
  | inr other ↦ short y ys (rw other refl) (rw other refl)
]
  where
    by_rest : (ys : Word) → View (dashed ys)
    by_rest [] = dashes refl
    by_rest (z ∷ zs) = long_view z zs

-- Each word has its view.
pub view : (word : Word) → View word
view [] = plain refl refl
view (x ∷ xs) = elim (cases_Bool (x == 45)) [
  | inl is ↦ rw (eqb-true x 45 is) (by_rest xs)
  | inr other ↦ plain (rw other refl) (rw other refl)
]
  where
    by_rest : (xs : Word) → View (45 ∷ xs)
    by_rest [] = plain refl refl
    by_rest (y ∷ ys) = hyphen_view y ys

-- A value that may stand in a word of its own has this view.
pub plain_view : (word : Word) → is_plain word ≡ true → (long_of word ≡ None) × (short_of word ≡ None)
    × (is_end word ≡ false)
plain_view [] begins = (refl, refl, refl)
plain_view (x ∷ xs) begins = grind arith

-- A word with an `=` is one use, whatever stands behind it.
pub uses_pair : (word : Word) (words : Words) → list_any is_equals word ≡ true → uses_of (word ∷ words)
    ≡ use_in_front (attached word) (uses_of words)
uses_pair word [] some = rw some refl
uses_pair word (next ∷ words) some = rw some refl

-- Another word is the name of a value.
pub uses_flag : (word value : Word) (words : Words) → list_any is_equals word ≡ false
    → uses_of (word ∷ value ∷ words) ≡ use_in_front (separate word value) (uses_of words)
uses_flag word value words none = rw none refl

-- A name with its hyphens that stands before the first `=` is cut from such a word.
pub cut_from : (word name : Word) → before_first is_equals word ≡ dashed name → (rest : Word) × (word ≡ dashed rest)
cut_from [] name is = cc
cut_from (x ∷ []) name is = absurd (grind arith)
cut_from (x ∷ y ∷ ys) name is =
    let n = position_or_len is_equals ys in
    let e : 1 + n ≡ suc n = omega arith in
    let f : 1 + suc n ≡ suc (suc n) = omega arith in
    (ys, grind (arith, e, f))
