-- Uses counted, and the rows that clap keeps of them.
use Rattle.std.proofs.lemmas.{Slice.Eq.bytes_eq-Decides, List.Folds.list_all-append, Bool.false_from_ne_true}
use Rattle.std.proofs.Common.{List, None, Option, Some, append-nil, arith, cond, false, map, refl, true, ◌++◌, sym, ◌+◌}
use Rattle.qm_words.proofs.Words.{by_id, full_rule, rules, Pending, settle, with_hyphens, same_name}
use Rattle.clap.specs.Walk.{Row, at_row, first_of, has_row, more_values, settled_rows, used}
use Rattle.std.proofs.{lemmas.List.map-append, lemmas.Bool.false≢true, Common.◌∙◌, Common.◌∷◌, Common.◌≡◌, Common.◌≤◌}
use Rattle.def_run.specs.{Options.count_of, Options.value_of, Options.Uses, Options.Use}
use Rattle.clap.specs.{declared.parser.matches.ValueSource.TheVariants.CommandLine, Takes.is_given, Faults.use_fault}
use Rattle.std.{specs.List.list_all, specs.Str.bytes_eq, proofs.Common.[], proofs.Common.ap, proofs.Common.ℕ}
use Rattle.{qm_words.specs.Parsing.is_known, clap.specs.declared.builder.value_parser.Reading.TheVariants.AsWritten}
use Rattle.{def_text.specs.Types.Words, def_text.specs.Types.Word}

-- The row of a use without hyphens.
abbrev pub row_of : (one : Use) → Row
row_of one =
    record { id = one.name; values = one.value ∷ []; count = None; source = Some CommandLine; reading = AsWritten }

abbrev pub rows_of : (uses : Uses) → List Row
rows_of uses = map row_of uses

-- How often a name is used.
abbrev pub count : (name : Word) (uses : Uses) → ℕ
count name [] = 0
count name (one ∷ uses) = cond (bytes_eq one.name name) 1 0 + count name uses

pub either_way : (a b : Word) → bytes_eq a b ≡ bytes_eq b a
either_way a b =
    let one = bytes_eq-Decides a b in
    let two = bytes_eq-Decides b a in grind (arith, one.0, one.1, two.0, two.1)

-- Hyphens change no count.
pub count_hyphens : (name : Word) (uses : Uses) → count_of name (map with_hyphens uses) ≡ count name uses
count_hyphens name [] = refl
count_hyphens name (one ∷ uses) = ap (λ (n : ℕ). cond (bytes_eq one.name name) 1 0 + n) (count_hyphens name uses)

pub count_append : (name : Word) (uses more : Uses) → count name (uses ++ more) ≡ count name uses + count name more
count_append name [] more = omega arith
count_append name (one ∷ uses) more = omega (arith, count_append name uses more)

-- No row of a name is no use of it.
pub fresh_count : (name : Word) (uses : Uses) → has_row name (rows_of uses) ≡ false → count name uses ≡ 0
fresh_count name [] none = refl
fresh_count name (one ∷ uses) none = grind (arith, fresh_count name uses)

pub count_fresh : (name : Word) (uses : Uses) → count name uses ≡ 0 → has_row name (rows_of uses) ≡ false
count_fresh name [] none = refl
count_fresh name (one ∷ uses) none = grind (arith, count_fresh name uses)

-- A row of a name that was given is a use of it.
pub given_count : (name : Word) (uses : Uses) → is_given name (rows_of uses) ≡ true → 1 ≤ count name uses
given_count name [] given = absurd (false≢true given)
given_count name (one ∷ uses) given = grind (arith, given_count name uses)

pub count_given : (name : Word) (uses : Uses) → 1 ≤ count name uses → is_given name (rows_of uses) ≡ true
count_given name [] some = absurd (omega arith)
count_given name (one ∷ uses) some = grind (arith, count_given name uses)

-- The first row of a name has the value of its first use.
pub first_value_of : (name : Word) (uses : Uses) → 1 ≤ count name uses → first_of name (rows_of uses)
    ≡ Some (value_of name (map with_hyphens uses))
first_value_of name [] some = absurd (omega arith)
first_value_of name (one ∷ uses) some = grind (arith, first_value_of name uses)

-- A row that is not there is put at the end.
at_row_fresh : (id : Word) (change : Row → List Row) (missing rows : List Row) → has_row id rows ≡ false
    → at_row id change missing rows ≡ rows ++ missing
at_row_fresh id change missing [] none = refl
at_row_fresh id change missing (r ∷ rows) none = grind (arith, at_row_fresh id change missing rows)

pub used_fresh : (one : Use) (uses : Uses) → has_row one.name (rows_of uses) ≡ false
    → used (full_rule one.name) (one.value ∷ []) (rows_of uses) ≡ rows_of (uses ++ one ∷ [])
used_fresh one uses none = rw (at_row_fresh one.name (λ r. []) [] (rows_of uses) none, append-nil (rows_of uses))
    (at_row_fresh one.name (more_values CommandLine (one.value ∷ [])) (row_of one ∷ []) (rows_of uses) none
    ∙ sym (map-append row_of uses (one ∷ [])))

-- A use has no fault exactly where it is the first of its name.
pub fresh_from : (id value : Word) (rows : List Row) → use_fault false (full_rule id) (value ∷ []) rows ≡ []
    → has_row id rows ≡ false
fresh_from id value rows quiet = false_from_ne_true _ (λ has. cc (rw has at quiet))

pub fresh_quiet : (id value : Word) (rows : List Row) → has_row id rows ≡ false
    → use_fault false (full_rule id) (value ∷ []) rows ≡ []
fresh_quiet id value rows none = rw none refl

-- Uses of known options, none of them used twice.
pub record Good (names : Words) (uses : Uses) : Type 0 where
  pub once : (name : Word) → count name uses ≤ 1
  pub known : list_all (λ (one : Use). is_known names one.name) uses ≡ true

pub good_more : (names : Words) (uses : Uses) (one : Use) → Good names uses → is_known names one.name ≡ true
    → count one.name uses ≡ 0 → Good names (uses ++ one ∷ [])
good_more names uses one good known none = record {
  once = λ name. grind
      (arith, (bytes_eq-Decides one.name name).0, count_append name uses (one ∷ []), good.once name);
  known = list_all-append (λ (u : Use). is_known names u.name) uses (one ∷ []) ∙ rw (good.known, known) refl;
}

pub good_parts : (names : Words) (uses more : Uses) → Good names (uses ++ more)
    → Good names uses × (list_all (λ (one : Use). is_known names one.name) more ≡ true)
good_parts names uses more good =
    let all = list_all-append (λ (u : Use). is_known names u.name) uses more in
    let few = λ (name : Word). count_append name uses more in
    (record { once = λ name. omega (arith, few name, good.once name); known = grind arith }, grind arith)

-- The last of such uses is the first of its name.
pub last_fresh : (names : Words) (uses : Uses) (one : Use) → Good names (uses ++ one ∷ []) → count one.name uses ≡ 0
last_fresh names uses one good =
    grind (arith, same_name one.name, count_append one.name uses (one ∷ []), good.once one.name)

-- The uses with the one that is pending, and how clap keeps that.
abbrev pub all_of : (uses : Uses) (last : Option Use) → Uses
all_of uses None = uses
all_of uses (Some one) = uses ++ one ∷ []

abbrev pub pending : (last : Option Use) → Pending
pending None = None
pending (Some one) = Some (one.name, one.value ∷ [])

abbrev pub IsKnown : (names : Words) (last : Option Use) → Type 0
IsKnown names None = Unit {0}
IsKnown names (Some one) = is_known names one.name ≡ true

-- Where settling it has no fault, it joins the others.
pub settled : (names : Words) (uses : Uses) (last : Option Use) → Good names uses → IsKnown names last
    → settle names (rows_of uses) (pending last) ≡ [] → Good names (all_of uses last)
    × (settled_rows (rules names) (pending last) (rows_of uses) ≡ rows_of (all_of uses last))
settled names uses None good known quiet = (good, refl)
settled names uses (Some one) good known quiet =
    let rule = by_id names one.name known in
    let none : has_row one.name (rows_of uses) ≡ false = grind arith in
    (good_more names uses one good known (fresh_count one.name uses none), rw rule (used_fresh one uses none))

-- It has none where it is the first of its name.
pub settles : (names : Words) (uses : Uses) (last : Option Use) → IsKnown names last → Good names (all_of uses last)
    → (settle names (rows_of uses) (pending last) ≡ []) × (settled_rows (rules names) (pending last) (rows_of uses)
    ≡ rows_of (all_of uses last))
settles names uses None known good = (refl, refl)
settles names uses (Some one) known good =
    let rule = by_id names one.name known in
    let none = count_fresh one.name uses (last_fresh names uses one good) in
    (rw rule (fresh_quiet one.name one.value (rows_of uses) none), rw rule (used_fresh one uses none))
