-- clap takes words that are uses of the options, where each value may stand in a word of its own, and no others.
use Rattle.std.proofs.lemmas.Bool.{and_parts, cases_Bool, false≢true, true≢false, or_from, or_parts}
use Rattle.std.proofs.Common.{Bool, List, None, Option, Some, append-nil, append_assoc, false, subst, arith, slice_get}
use Rattle.std.proofs.Common.{refl, true, ◌++◌, [], ap, inl, inr, map, sym, ℕ, ◌∙◌, ◌∷◌, ◌≡◌}
use Rattle.qm_words.proofs.Words.{attached_dashed, with_hyphens, garbled_fault, garbled_value_walk, unknown_fault, View}
use Rattle.qm_words.proofs.Words.{before_all, plain_view, uses_flag, short_fault, stray_fault, waits_fault, View.dashes}
use Rattle.qm_words.proofs.Words.{value_step, uses_pair, full_rule, rules, flag_step, pair_step, View.plain, View.short}
use Rattle.qm_words.proofs.Words.{settle, stands, cut_from, view, Pending, View.flag, View.pair}
use Rattle.qm_words.proofs.Uses.{count_fresh, fresh_quiet, last_fresh, used_fresh, good_parts, fresh_count, fresh_from}
use Rattle.qm_words.proofs.Uses.{IsKnown, pending, all_of, rows_of, settles, Good, good_more, settled}
use Rattle.qm_words.proofs.Plain.{Passes, end_rows, passes_first, quiet_both, rests, waits, both_quiet, first_passes}
use Rattle.def_run.specs.Options.{Use, Uses, attached, dashed, is_equals, separate, use_in_front, uses_of}
use Rattle.clap.specs.Walk.{Row, Walk, idle, option, settled_rows, used, walked, Waiting}
use Rattle.clap.specs.{declared.error.kind.ErrorKind.TheVariants.InvalidValue, Faults.walk_fault, Faults.use_fault}
use Rattle.qm_words.{specs.Parsing.is_known, specs.Parsing.is_plain, specs.Parsing.is_end, proofs.Plain.stops}
use Rattle.{def_text.specs.Types.Words, def_text.specs.Types.Word, clap.specs.Lexer.long_of, clap.specs.Kinds.or_else}
use Rattle.{std.specs.List.list_all, std.specs.List.list_any, std.specs.Str.chars, clap.specs.Kinds.Kinds}

-- From this state the words pass, and all uses are read.
pub record Fit (names words : Words) (all : Uses) (from : Walk) : Type 0 where
  pub passes : Passes names words from
  pub rows : end_rows names from words ≡ rows_of all
  pub ends : list_any is_end words ≡ false

abbrev are_plain : (uses : Uses) → Bool
are_plain uses = list_all (λ (one : Use). is_plain one.value) uses

abbrev Rests : (names words : Words) → Type 0
Rests names words = (uses : Uses) (last : Option Use) (rest : Uses) → IsKnown names last
    → uses_of words ≡ Some (map with_hyphens rest) → are_plain rest ≡ true
    → Good names (all_of uses last ++ rest) → Fit names words (all_of uses last ++ rest) (rests uses last)

abbrev Waits : (names words : Words) → Type 0
Waits names words = (uses : Uses) (one : Use) (tail : Words) (rest : Uses) → is_known names one.name ≡ true → words
    ≡ one.value ∷ tail → uses_of tail ≡ Some (map with_hyphens rest) → is_plain one.value ≡ true → are_plain rest ≡ true
    → Good names (uses ++ one ∷ rest) → Fit names words (uses ++ one ∷ rest) (waits uses one.name)

rests_nil : (names : Words) → Rests names []
unfolding walk_fault
rests_nil names uses last [] known spelled begins good =
    let done = settles names uses last known (good_parts names (all_of uses last) [] good).0 in
    record {
      passes = record { walked = refl; settled = done.0 };
      rows = done.1 ∙ ap rows_of (sym (append-nil (all_of uses last)));
      ends = refl;
    }
rests_nil names uses last (one ∷ rest) known spelled begins good = absurd cc

-- A use in front of others is the first of all.
front_is : (first : Use) (behind : Option Uses) (all : Uses) → use_in_front first behind ≡ Some all
    → (rest : Uses) × (all ≡ first ∷ rest) × (behind ≡ Some rest)
front_is first None all is = absurd cc
front_is first (Some found) all is = (found, cc, refl)

-- A word with an `=` that is the use of an option.
pair_long : (word : Word) (one : Use) → attached word ≡ with_hyphens one → list_any is_equals word ≡ true
    → (long_of word ≡ Some (one.name, Some one.value)) × (rest : Word) × (byte : ℕ) × (word ≡ dashed (byte ∷ rest))
pair_long word one is some = let cut = cut_from word one.name (ap (λ (u : Use). u.name) is) in
    by_rest cut.0 cut.1
  where
    by_rest : (rest : Word) → word ≡ dashed rest → (long_of word ≡ Some (one.name, Some one.value)) × (bytes : Word)
        × (byte : ℕ) × (word ≡ dashed (byte ∷ bytes))
    by_rest [] form = absurd (false≢true (sym (ap (list_any is_equals) form) ∙ some))
    by_rest (z ∷ zs) form = (grind (arith, attached_dashed (z ∷ zs)), zs, z, form)

module _ (names : Words) (word : Word) (words : Words) where
  rests_pair : Rests names words → list_any is_equals word ≡ true → Rests names (word ∷ words)
  rests_pair later some uses last [] known spelled begins good =
      let front = front_is (attached word) (uses_of words) [] (sym (uses_pair word words some) ∙ spelled) in
      absurd (cc (front.1))
  rests_pair later some uses last (one ∷ rest) known spelled begins good =
      let all = all_of uses last in
      let front = front_is (attached word) (uses_of words) (map with_hyphens (one ∷ rest))
      (sym (uses_pair word words some) ∙ spelled) in
      let behind : uses_of words ≡ Some (map with_hyphens rest) = cc (front.1, front.2) in
      let form = pair_long word one (cc (front.1)) some in
      let other : is_end word ≡ false = rw form.3 refl in
      let joined = append_assoc all (one ∷ []) rest in
      let whole : Good names ((all ++ one ∷ []) ++ rest) = rw joined good in
      let parts = good_parts names all (one ∷ rest) good in
      let there = (and_parts (is_known names one.name) _ parts.1).0 in
      let done = settles names uses last known parts.0 in
      let prefix = (good_parts names (all ++ one ∷ []) rest whole).0 in
      let fresh = count_fresh one.name all (last_fresh names all one prefix) in
      let quiet : use_fault false (full_rule one.name) (one.value ∷ []) (settled_rows (rules names) (pending last)
      (rows_of uses)) ≡ [] = rw done.1 (fresh_quiet one.name one.value (rows_of all) fresh) in
      let step = pair_step names (rows_of uses) (pending last) word other idle one.name one.value form.0 there in
      let goes : walked (rules names) [] (rests uses last) word ≡ rests (all ++ one ∷ []) None = step.1
      ∙ ap (λ (rows : List Row). stands rows None idle) (ap (used (full_rule one.name) (one.value ∷ [])) done.1
      ∙ used_fresh one all fresh) in
      let fit = later (all ++ one ∷ []) None rest tt behind (and_parts (is_plain one.value) _ begins).1 whole in
      record {
        passes = passes_first names word words (rests uses last) (step.0 ∙ quiet_both _ [] (quiet_both (settle names
            (rows_of uses) (pending last)) _ done.0 quiet) refl) (rw goes fit.passes);
        rows = ap (λ (w : Walk). end_rows names w words) goes ∙ fit.rows ∙ ap rows_of joined;
        ends = or_from _ _ other fit.ends;
      }

  waits_word : Rests names words → Waits names (word ∷ words)
  waits_word later uses one tail rest known split spelled begins all good =
      let first : word ≡ one.value = cc in
      let others : words ≡ tail = cc in
      let joined = append_assoc uses (one ∷ []) rest in
      let seen = plain_view word (ap is_plain first ∙ begins) in
      let step = value_step names (rows_of uses) one.name known word seen.2 seen.0 seen.1 in
      let goes : walked (rules names) [] (waits uses one.name) word ≡ rests uses (Some one) =
      step.1 ∙ ap (λ (v : Word). stands (rows_of uses) (Some (one.name, v ∷ [])) idle) first in
      let fit : Fit names words ((uses ++ one ∷ []) ++ rest) (rests uses (Some one)) =
      later uses (Some one) rest known (ap uses_of others ∙ spelled) all (subst (Good names) (sym joined) good) in
      record {
        passes = passes_first names word words (waits uses one.name) step.0
            (subst (Passes names words) (sym goes) fit.passes);
        rows = ap (λ (w : Walk). end_rows names w words) goes ∙ fit.rows ∙ ap rows_of joined;
        ends = or_from _ _ seen.2 fit.ends;
      }

rests_flag : (names : Words) (word : Word) (words : Words) → Waits names words → is_known names [] ≡ false
    → list_any is_equals word ≡ false → Rests names (word ∷ words)
rests_flag names word [] wait named none uses last rest known spelled begins good = cc (rw none at spelled)
rests_flag names word (value ∷ tail) wait named none uses last [] known spelled begins good =
    let front = front_is (separate word value) (uses_of tail) [] (sym (uses_flag word value tail none) ∙ spelled) in
    absurd (cc (front.1))
rests_flag names word (value ∷ tail) wait named none uses last (one ∷ rest) known spelled begins good =
    let all = all_of uses last in
    let front = front_is (separate word value) (uses_of tail) (map with_hyphens (one ∷ rest))
    (sym (uses_flag word value tail none) ∙ spelled) in
    let behind : uses_of tail ≡ Some (map with_hyphens rest) = cc (front.1, front.2) in
    let head : separate word value ≡ with_hyphens one = cc (front.1) in
    let form : word ≡ dashed one.name = ap (λ (u : Use). u.name) head in
    let parts = good_parts names all (one ∷ rest) good in
    let there = (and_parts (is_known names one.name) _ parts.1).0 in
    let done = settles names uses last known parts.0 in
    let reads = by_name one.name (rw form at none) there in
    let other : is_end word ≡ false = rw form reads.1 in
    let step = flag_step names (rows_of uses) (pending last) word other idle one.name (ap long_of form ∙ reads.0)
    there in
    let goes : walked (rules names) [] (rests uses last) word ≡ waits all one.name =
    step.1 ∙ ap (λ (rows : List Row). stands rows (Some (one.name, [])) (option one.name)) done.1 in
    let values = and_parts (is_plain one.value) _ begins in
    let fit = wait all one tail rest there (ap (λ (u : Use). u.value ∷ tail) head) behind values.0 values.1 good in
    record {
      passes = passes_first names word (value ∷ tail) (rests uses last)
          (step.0 ∙ quiet_both (settle names (rows_of uses) (pending last)) [] done.0 refl) (rw goes fit.passes);
      rows = ap (λ (w : Walk). end_rows names w (value ∷ tail)) goes ∙ fit.rows;
      ends = or_from _ _ other fit.ends;
    }
  where
    by_name : (name : Word) → list_any is_equals name ≡ false → is_known names name ≡ true
        → (long_of (dashed name) ≡ Some (name, None)) × (is_end (dashed name) ≡ false)
    by_name [] bare there = absurd (true≢false (sym there ∙ named))
    by_name (z ∷ zs) bare there = (rw bare (ap (λ (n : Word). Some (n, None)) (before_all (z ∷ zs) bare)), refl)

fits_both : (names : Words) → is_known names [] ≡ false → (words : Words) → Rests names words × Waits names words
fits_both names named [] = (rests_nil names, λ uses one tail rest known split spelled begins all good. absurd cc)
fits_both names named (word ∷ words) =
    let later = fits_both names named words in (
      elim (cases_Bool (list_any is_equals word)) [
        | inl some ↦ rests_pair names word words later.0 some
        | inr none ↦ rests_flag names word words later.1 named none
      ],
      waits_word names word words later.0,
    )

-- Words that are uses of known options, none twice, pass from the beginning.
pub fits : (names words : Words) (uses : Uses) → is_known names [] ≡ false
    → uses_of words ≡ Some (map with_hyphens uses)
    → list_all (λ (one : Use). is_plain one.value) uses ≡ true → Good names uses → Fit names words uses (rests [] None)
fits names words uses named spelled begins good = (fits_both names named words).0 [] None uses tt spelled begins good

-- Words that clap takes are uses of the options.

-- From this state, behind some uses, the words are more uses.
pub record Read (names words : Words) (before : Uses) (from : Walk) : Type 0 where
  pub rest : Uses
  pub spelled : uses_of words ≡ Some (map with_hyphens rest)
  pub rows : end_rows names from words ≡ rows_of (before ++ rest)
  pub good : Good names (before ++ rest)

-- The same behind the name of an option: a value comes first.
pub record ReadValue (names words : Words) (before : Uses) (id : Word) (from : Walk) : Type 0 where
  pub value : Word
  pub tail : Words
  pub split : words ≡ value ∷ tail
  pub rest : Uses
  pub spelled : uses_of tail ≡ Some (map with_hyphens rest)
  pub rows : end_rows names from words ≡ rows_of (before ++ record { name = id; value = value } ∷ rest)
  pub good : Good names (before ++ record { name = id; value = value } ∷ rest)

abbrev ReadsOn : (names words : Words) → Type 0
ReadsOn names words = (uses : Uses) (last : Option Use) → Good names uses → IsKnown names last → list_any is_end words
    ≡ false → Passes names words (rests uses last) → Read names words (all_of uses last) (rests uses last)

abbrev ReadsValue : (names words : Words) → Type 0
ReadsValue names words = (uses : Uses) (id : Word) → Good names uses → is_known names id ≡ true → list_any is_end words
    ≡ false → Passes names words (waits uses id) → ReadValue names words uses id (waits uses id)

-- No words.
nothing_read : (names : Words) → ReadsOn names []
nothing_read names uses last good known ends passes =
    let done = settled names uses last good known passes.settled in
    record {
      rest = [];
      spelled = refl;
      rows = done.1 ∙ ap rows_of (sym (append-nil (all_of uses last)));
      good = subst (Good names) (sym (append-nil (all_of uses last))) done.0;
    }

nothing_waits : (names : Words) → ReadsValue names []
nothing_waits names uses id good known ends passes =
    let bad : ◌≡◌ {A = Kinds} (InvalidValue ∷ []) [] =
    sym (waits_fault names (rows_of uses) id known) ∙ passes.settled in
    absurd cc

module _ (names : Words) (word : Word) (words : Words) (e : is_end word ≡ false) (ends : list_any is_end words ≡ false)
  where
    -- An option of each name is known.
    known_name : (rows : List Row) (pending : Pending) (waiting : Waiting) (name : Word) (value : Option Word)
        → Passes names (word ∷ words) (stands rows pending waiting) → long_of word ≡ Some (name, value)
        → is_known names name ≡ true
    known_name rows pending waiting name value passes l = elim (cases_Bool (is_known names name)) [
      | inl there ↦ there
      | inr off ↦ stops names word words (stands rows pending waiting) passes
          (unknown_fault names rows pending word e waiting name value l off)
    ]

    module _ (uses : Uses) (last : Option Use) (good : Good names uses) (known : IsKnown names last)
        (passes : Passes names (word ∷ words) (rests uses last)) where
      -- A name, and its value behind it.
      by_flag : ReadsValue names words → (name : Word) → long_of word ≡ Some (name, None) → word ≡ dashed name
          → list_any is_equals word ≡ false → is_known names name ≡ true
          → Read names (word ∷ words) (all_of uses last) (rests uses last)
      by_flag later name long is none there =
          let first = first_passes names word words (rests uses last) passes in
          let step = flag_step names (rows_of uses) (pending last) word e idle name long there in
          let quiet : or_else (settle names (rows_of uses) (pending last)) [] ≡ [] = sym step.0 ∙ first.0 in
          let done = settled names uses last good known (both_quiet _ [] quiet).0 in
          let goes : walked (rules names) [] (rests uses last) word ≡ waits (all_of uses last) name =
          step.1 ∙ ap (λ (rows : List Row). stands rows (Some (name, [])) (option name)) done.1 in
          let read : ReadValue names words (all_of uses last) name (waits (all_of uses last) name) =
          later (all_of uses last) name done.0 there ends (subst (Passes names words) goes first.1) in
          record {
            rest = record { name = name; value = read.value } ∷ read.rest;
            spelled = ap (λ (ws : Words). uses_of (word ∷ ws)) read.split ∙ uses_flag word read.value read.tail none
                ∙ ap (use_in_front (separate word read.value)) read.spelled
                ∙ ap (λ (w : Word). Some (separate w read.value ∷ map with_hyphens read.rest)) is;
            rows = ap (λ (w : Walk). end_rows names w words) goes ∙ read.rows;
            good = read.good;
          }

      -- A name with its value.
      by_pair : ReadsOn names words → (name value : Word) → long_of word ≡ Some (name, Some value) → attached word
          ≡ record { name = dashed name; value = value } → list_any is_equals word ≡ true → is_known names name ≡ true
          → Read names (word ∷ words) (all_of uses last) (rests uses last)
      by_pair later name value long is some there =
          let one : Use = record { name = name; value = value } in
          let all = all_of uses last in
          let first = first_passes names word words (rests uses last) passes in
          let step = pair_step names (rows_of uses) (pending last) word e idle name value long there in
          let quiet : or_else (or_else (settle names (rows_of uses) (pending last)) (use_fault false (full_rule name)
          (value ∷ []) (settled_rows (rules names) (pending last) (rows_of uses)))) [] ≡ [] = sym step.0 ∙ first.0 in
          let parts = both_quiet (settle names (rows_of uses) (pending last)) _ (both_quiet _ [] quiet).0 in
          let done = settled names uses last good known parts.0 in
          let fresh = fresh_from name value (rows_of all) (rw (← done.1) parts.1) in
          let goes : walked (rules names) [] (rests uses last) word ≡ rests (all ++ one ∷ []) None = step.1
          ∙ ap (λ (rows : List Row). stands rows None idle) (ap (used (full_rule name) (value ∷ [])) done.1
          ∙ used_fresh one all fresh) in
          let read : Read names words (all ++ one ∷ []) (rests (all ++ one ∷ []) None) =
          later (all ++ one ∷ []) None (good_more names all one done.0 there (fresh_count name all fresh)) tt ends
          (subst (Passes names words) goes first.1) in
          let joined = append_assoc all (one ∷ []) read.rest in
          record {
            rest = one ∷ read.rest;
            spelled = uses_pair word words some ∙ ap (use_in_front (attached word)) read.spelled
                ∙ ap (λ (u : Use). Some (u ∷ map with_hyphens read.rest)) is;
            rows = ap (λ (w : Walk). end_rows names w words) goes ∙ read.rows ∙ ap rows_of joined;
            good = subst (Good names) joined read.good;
          }

      rests_view : ReadsOn names words → ReadsValue names words → View word
          → Read names (word ∷ words) (all_of uses last) (rests uses last)
      rests_view rest wait (plain l s) =
          stops names word words (rests uses last) passes (stray_fault names (rows_of uses) (pending last) word e l s)
      rests_view rest wait (short byte bytes l s) = by_letter (slice_get (chars (byte ∷ bytes)) 0) refl
        where
          by_letter : (o : Option ℕ) → slice_get (chars (byte ∷ bytes)) 0 ≡ o
              → Read names (word ∷ words) (all_of uses last) (rests uses last)
          by_letter None c = stops names word words (rests uses last) passes
              (garbled_fault names (rows_of uses) (pending last) word e byte bytes l s c)
          by_letter (Some letter) c = stops names word words (rests uses last) passes
              (short_fault names (rows_of uses) (pending last) word e idle byte bytes letter l s c)
      rests_view rest wait (flag name l is none) =
          by_flag wait name l is none (known_name (rows_of uses) (pending last) idle name None passes l)
      rests_view rest wait (pair name value l is some) =
          by_pair rest name value l is some (known_name (rows_of uses) (pending last) idle name (Some value) passes l)
      rests_view rest wait (dashes is) = absurd (true≢false (sym is ∙ e))

    module _ (uses : Uses) (id : Word) (good : Good names uses) (known : is_known names id ≡ true)
        (passes : Passes names (word ∷ words) (waits uses id)) where
      -- The value of the option that waits.
      by_value : ReadsOn names words
          → walked (rules names) [] (waits uses id) word ≡ rests uses (Some (record { name = id; value = word }))
          → ReadValue names (word ∷ words) uses id (waits uses id)
      by_value later goes =
          let one : Use = record { name = id; value = word } in
          let read : Read names words (uses ++ one ∷ []) (rests uses (Some one)) = later uses (Some one) good known ends
          (subst (Passes names words) goes (first_passes names word words (waits uses id) passes).1) in
          let joined = append_assoc uses (one ∷ []) read.rest in
          record {
            value = word;
            tail = words;
            split = refl;
            rest = read.rest;
            spelled = read.spelled;
            rows = ap (λ (w : Walk). end_rows names w words) goes ∙ read.rows ∙ ap rows_of joined;
            good = subst (Good names) joined read.good;
          }

      waits_view : ReadsOn names words → View word → ReadValue names (word ∷ words) uses id (waits uses id)
      waits_view rest (plain l s) = by_value rest (value_step names (rows_of uses) id known word e l s).1
      waits_view rest (short byte bytes l s) = by_letter (slice_get (chars (byte ∷ bytes)) 0) refl
        where
          by_letter : (o : Option ℕ) → slice_get (chars (byte ∷ bytes)) 0 ≡ o
              → ReadValue names (word ∷ words) uses id (waits uses id)
          by_letter None c = by_value rest (garbled_value_walk names (rows_of uses) id known word byte bytes e l s c)
          by_letter (Some letter) c = stops names word words (waits uses id) passes
              (short_fault names (rows_of uses) (Some (id, [])) word e (option id) byte bytes letter l s c)
      waits_view rest (flag name l is none) =
          let there = known_name (rows_of uses) (Some (id, [])) (option id) name None passes l in
          stops names word words (waits uses id) {kind = InvalidValue} passes ((flag_step names (rows_of uses)
          (Some (id, [])) word e (option id) name l there).0 ∙ rw (waits_fault names (rows_of uses) id known) refl)
      waits_view rest (pair name value l is some) =
          let there = known_name (rows_of uses) (Some (id, [])) (option id) name (Some value) passes l in
          stops names word words (waits uses id) {kind = InvalidValue} passes
          ((pair_step names (rows_of uses) (Some (id, [])) word e (option id) name value l there).0
          ∙ rw (waits_fault names (rows_of uses) id known) refl)
      waits_view rest (dashes is) = absurd (true≢false (sym is ∙ e))

sound_both : (names words : Words) → ReadsOn names words × ReadsValue names words
sound_both names [] = (nothing_read names, nothing_waits names)
sound_both names (word ∷ words) =
    let later = sound_both names words in
    let apart = or_parts (is_end word) (list_any is_end words) in (
      λ uses last good known ends passes. rests_view names word words (apart ends).0 (apart ends).1 uses last good known
          passes later.0 later.1 (view word),
      λ uses id good known ends passes. waits_view names word words (apart ends).0 (apart ends).1 uses id good known
          passes later.0 (view word),
    )

-- Words without `--` that clap takes from the beginning are uses of known options, none twice.
pub sound : (names words : Words) → list_any is_end words ≡ false → Passes names words (rests [] None)
    → Read names words [] (rests [] None)
sound names words ends passes =
    (sound_both names words).0 [] None (record { once = λ name. omega arith; known = refl }) tt ends passes
