-- What clap's contracts say of the words, and clap's answers to the command that the loop makes.
use Rattle.clap.specs.declared.error.kind.ErrorKind.TheVariants.{MissingRequiredArgument, OutOfMemory}
use Rattle.def_run.specs.declared.words.WordsFail.{WordsFail, TheVariants.Memory, TheVariants.Usage}
use Rattle.clap.specs.declared.parser.{matches.ArgMatches.ArgMatches, matches.Found.Found}
use Rattle.std.proofs.lemmas.{Slice.Eq.bytes_eq-Decides, List.Folds.list_all-map, List.take_more, Bool.and_parts}
use Rattle.std.proofs.Common.{Bool, List, None, arith, cond, false, fold, refl, subst, length, slice_index_or, take_all}
use Rattle.std.proofs.Common.{ap₂, true, ◌&&◌, ◌==◌, ◌||◌, map, not, sym, ◌∙◌, ◌∷◌, ◌≡◌, take, ◌≤◌, ◌+◌, ◌<◌, [], ap, ℕ}
use Rattle.qm_words.specs.Parsing.{options_app, is_known, is_plain, is_end, Reads, Refuses, option_rule}
use Rattle.qm_words.proofs.Words.{full_rule, with_hyphens, built_is, rules, shape, among, simple_free, simple}
use Rattle.qm_words.proofs.Uses.{count, count_given, count_hyphens, either_way, first_value_of, given_count, rows_of}
use Rattle.def_run.specs.Options.{AreOptions, are_once, count_of, dashed, is_of, Uses, Use}
use Rattle.clap.specs.Walk.{Row, Rule, first_of, nothing_held, rows_after, with_default}
use Rattle.clap.specs.Faults.{built_fault, defaults_fault, fault_of, settle_fault, walk_fault, is_simple_and_free}
use Rattle.std.proofs.{lemmas.List.map_push, lemmas.Bool.and_from, lemmas.Bool.eqb-true}
use Rattle.qm_words.proofs.{Walks.sound, Walks.fits, Plain.end_rows, Plain.name_in, Plain.Passes, Plain.rests}
use Rattle.clap.specs.{declared.error.Error.Error, Simple.HasMatchesOf, Simple.matches_of, Simple.with_rule, Simple.App}
use Rattle.clap.specs.{Values.kind_of, Takes.is_given, Matches.found_of, Kinds.or_else, Kinds.HasKind, Kinds.Kinds}
use Rattle.std.{specs.List.list_all, specs.List.list_any, specs.Str.bytes_eq, specs.Borrow.Bor}
use Rattle.{def_text.specs.Types.Words, clap.proofs.WalkLemmas.first_value-rows, clap.proofs.FaultLemmas.leaf_fault}
use Rattle.{qm_words.proofs.Uses.Good, qm_words.proofs.Plain.end, def_text.specs.Types.Word}
use Rattle.clap.specs.Walk as clap

-- No option has a default.
same_rows : (names : Words) (rows : List Row) → fold with_default rows (rules names) ≡ rows
same_rows [] rows = refl
same_rows (name ∷ names) rows = grind (arith, same_rows names rows)

no_defaults : (names : Words) (rows : List Row) → defaults_fault rows (rules names) ≡ []
unfolding defaults_fault
no_defaults [] rows = refl
no_defaults (name ∷ names) rows = grind (arith, no_defaults names (with_default rows (full_rule name)))

-- An option that must stand and was not given.
abbrev is_missing : (rows : List Row) (rule : Rule) → Bool
is_missing rows rule = rule.required && not (is_given rule.id rows)

abbrev missing : (names : Words) (rows : List Row) → Kinds
missing names rows = cond (list_any (is_missing rows) (rules names)) (MissingRequiredArgument ∷ []) []

-- The faults of the whole: those of the walk, and of options that are missing at its end.
fault_is : (names words : Words) → fault_of (options_app names) words ≡ or_else
    (walk_fault (shape names) [] (rests [] None) words)
    (or_else [] (or_else (settle_fault (rules names) false (end names (rests [] None) words))
    (or_else (defaults_fault (end_rows names (rests [] None) words) (rules names))
    (missing names (fold with_default (end_rows names (rests [] None) words) (rules names))))))
fault_is names words = ap (λ (a : App). built_fault a nothing_held words) (built_is names) ∙ leaf_fault
    (record { top = shape names; subs = [] }) nothing_held words refl

passes_of : (names words : Words) → fault_of (options_app names) words ≡ []
    → Passes names words (rests [] None) × (missing names (end_rows names (rests [] None) words) ≡ [])
passes_of names words quiet =
    grind (arith, fault_is names words, same_rows names (end_rows names (rests [] None) words))

of_passes : (names words : Words) → Passes names words (rests [] None)
    → missing names (end_rows names (rests [] None) words) ≡ [] → fault_of (options_app names) words ≡ []
of_passes names words passes given =
    let rows = end_rows names (rests [] None) words in
    grind (arith, fault_is names words, no_defaults names rows, same_rows names rows)

-- Each option was given exactly where none is missing.
once_each : (names : Words) (uses : Uses) → ((name : Word) → count name uses ≤ 1) → list_any (is_missing (rows_of uses))
    (rules names) ≡ false → list_all (λ name. count_of name (map with_hyphens uses) == 1) names ≡ true
once_each [] uses once given = refl
once_each (name ∷ names) uses once given =
    grind (arith, given_count name uses, count_hyphens name uses, once name, once_each names uses once)

none_lacks : (names : Words) (uses : Uses) → list_all (λ name. count_of name (map with_hyphens uses) == 1) names ≡ true
    → list_any (is_missing (rows_of uses)) (rules names) ≡ false
none_lacks [] uses all = refl
none_lacks (name ∷ names) uses all =
    grind (arith, count_given name uses, count_hyphens name uses, none_lacks names uses)

-- Known names with hyphens and without.
known_names : (names : Words) (name : Word) → list_any (λ n. bytes_eq name n) names ≡ is_known names name
known_names [] name = refl
known_names (n ∷ names) name = ap₂ (λ a b. a || b) (either_way name n) (known_names names name)

known_uses : (names : Words) (uses : Uses) → list_all (λ (one : Use). list_any (λ name. is_of name one) names)
    (map with_hyphens uses) ≡ list_all (λ (one : Use). is_known names one.name) uses
known_uses names [] = refl
known_uses names (one ∷ uses) = ap₂ (λ a b. a && b) (known_names names one.name) (known_uses names uses)

unknown_count : (names : Words) (uses : Uses) (name : Word) → list_all (λ (one : Use). is_known names one.name) uses
    ≡ true → is_known names name ≡ false → count name uses ≡ 0
unknown_count names [] name known not_there = refl
unknown_count names (one ∷ uses) name known not_there =
    grind (arith, (bytes_eq-Decides one.name name).0, unknown_count names uses name)

known_count : (names : Words) (uses : Uses) (name : Word) → list_all (λ n. count_of n (map with_hyphens uses) == 1)
    names ≡ true → is_known names name ≡ true → count name uses ≡ 1
known_count names uses name all known = sym (count_hyphens name uses)
    ∙ eqb-true _ 1 (among (λ n. count_of n (map with_hyphens uses) == 1) names name all known)

-- Words that clap takes, without `--`, are the options.
pub taken : (names words : Words) (found : Found) → list_any is_end words ≡ false → fault_of (options_app names) words
    ≡ [] → clap.rows_of found ≡ matches_of (options_app names) words → Reads names words found
taken names words found ends quiet is =
    let parts = passes_of names words quiet in
    let read = sound names words ends parts.0 in
    let rows = is ∙ ap (λ (a : App). rows_after a.top.rules [] words) (built_is names)
    ∙ same_rows names (end_rows names (rests [] None) words) ∙ read.rows in
    let none = ap (missing names) (sym read.rows) ∙ parts.1 in
    let given : list_any (is_missing (rows_of read.rest)) (rules names) ≡ false = grind arith in
    let each = once_each names read.rest read.good.once given in
    record {
      uses = map with_hyphens read.rest;
      options =
          record { spelled = read.spelled; once = and_from _ _ each (known_uses names read.rest ∙ read.good.known) };
      values = λ name known. first_value-rows found name ∙ ap (first_of name) rows
          ∙ first_value_of name read.rest (omega (arith, known_count names read.rest name each known));
    }

-- Uses of options without their hyphens.
bare_uses : (names : Words) (uses : Uses) → list_all (λ (one : Use). list_any (λ name. is_of name one) names) uses
    ≡ true → (bare : Uses) × (uses ≡ map with_hyphens bare)
bare_uses names [] all = ([], refl)
bare_uses names (one ∷ uses) all =
    let parts = and_parts (list_any (λ name. is_of name one) names) _ all in
    let first = name_in names one parts.0 in
    let dash : one.name ≡ dashed first.0 = (bytes_eq-Decides one.name (dashed first.0)).0 first.2 in
    let later = bare_uses names uses parts.1 in (
      record { name = first.0; value = one.value } ∷ later.0,
      λ i. record { name = dash i; value = one.value } ∷ later.1 i,
    )

-- Each option once, and no other: known uses, none twice.
good_of : (names : Words) (bare : Uses) → are_once names (map with_hyphens bare) ≡ true → Good names bare
good_of names bare once =
    let known = known_uses names bare in
    record {
      once = λ name. grind (arith, known_count names bare name, unknown_count names bare name);
      known = grind arith;
    }

-- clap takes a line whose values may stand in words of their own, and no word of it is `--`.
line_bare : (names words : Words) (bare : Uses) → is_known names [] ≡ false
    → AreOptions names words (map with_hyphens bare)
    → list_all (λ (one : Use). is_plain one.value) (map with_hyphens bare) ≡ true
    → (list_any is_end words ≡ false) × (fault_of (options_app names) words ≡ [])
line_bare names words bare named line plain =
    let each = (and_parts (list_all (λ n. count_of n (map with_hyphens bare) == 1) names) _ line.once).0 in
    let fit = fits names words bare named line.spelled
    (sym (list_all-map (λ (one : Use). is_plain one.value) with_hyphens bare) ∙ plain) (good_of names bare line.once) in
    (fit.ends, of_passes names words fit.passes (rw (fit.rows, none_lacks names bare each) refl))

pub line_taken : (names words : Words) (uses : Uses) → is_known names [] ≡ false → AreOptions names words uses
    → list_all (λ (one : Use). is_plain one.value) uses ≡ true
    → (list_any is_end words ≡ false) × (fault_of (options_app names) words ≡ [])
line_taken names words uses named line plain =
    let parts = and_parts (list_all (λ n. count_of n uses == 1) names) _ line.once in
    let found = bare_uses names uses parts.1 in
    line_bare names words found.0 named (subst (AreOptions names words) found.1 line)
    (subst (λ (us : Uses). list_all (λ (one : Use). is_plain one.value) us ≡ true) found.1 plain)

-- The command that the loop makes, and clap's answers to it.

abbrev pub texts : (names : List (Bor Word)) → Words
texts names = map (λ name. name.now) names

-- One option more.
pub app_more : (names : List (Bor Word)) (i : ℕ) (d : Bor Word) (before now : App) → i < length names → before
    ≡ options_app (texts (take i names)) → now ≡ with_rule before (option_rule (slice_index_or names i d).now) → now
    ≡ options_app (texts (take (i + 1) names))
app_more names i d before now low is more = rw (more, is) (simp (take_more names i d low, map_push))

-- All of them.
pub app_all : (names : List (Bor Word)) (i : ℕ) (now : App) → length names ≤ i
    → now ≡ options_app (texts (take i names)) → now ≡ options_app (texts names)
app_all names i now far is = is ∙ ap (λ (ns : List (Bor Word)). options_app (texts ns)) (take_all i names far)

-- clap took the words.
pub took : (names words : Words) (a : App) (m : ArgMatches) → a ≡ options_app names → list_any is_end words ≡ false
    → (is_simple_and_free a ≡ true → fault_of a words ≡ []) → HasMatchesOf a words m → Reads names words (found_of m)
took names words a m is ends quiet rows =
    taken names words (found_of m) ends (rw is at quiet (simple_free names)) ((rw is at rows) (simple names)).0

-- clap refused them.
pub refused : (names words : Words) (a : App) (e : Error) (fail : WordsFail) → a ≡ options_app names → is_known names []
    ≡ false → (is_simple_and_free a ≡ true → HasKind (fault_of a words) e) → (kind_of e ≡ OutOfMemory → fail ≡ Memory)
    → fail ≡ Usage → Refuses names words
refused names words a e fail is named kinds memory usage uses line plain =
    let quiet = (line_taken names words uses named line plain).1 in
    let kind : HasKind (fault_of (options_app names) words) e = rw is at kinds (simple_free names) in grind arith
