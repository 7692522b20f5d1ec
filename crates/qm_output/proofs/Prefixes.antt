-- A text that is put item by item and stops at one of them.
use Rattle.std.proofs.Common.{◌≡◌, ℕ, suc, ◌+◌, ◌<◌, map, arith, List, [], ◌∷◌, ◌++◌, length, take, drop, get_or, sym}
use Rattle.std.proofs.Common.{◌∙◌, ap, append_assoc, ◌-◌, ◌≤◌, true, slice_index, eqb, inl, inr, length-drop}
use Rattle.std.proofs.Common.{length-take, Result, Ok, Err}
use Rattle.std.proofs.{lemmas.List.FromFn.take-map-range_with_len, Math.Seq.drop-cons, Math.Seq.take-append_seam}
use Rattle.std.proofs.lemmas.List.{append-nil, take-append-drop, drop-drop, drop_all}
use Rattle.std.proofs.lemmas.List.FromFn.{get_or-map-range_with_len, length-map-range_with_len, map-range_with_len_more}
use Rattle.std.proofs.lemmas.Bool.{cases_lt, eq-eqb, eqb-true}
use Rattle.def_io.specs.{Bytes.Bytes, Bytes.Told, Faults.Rose, Moves.took, Moves.TookPrefix}
use Rattle.def_output.specs.Buffered.{buffered, Buffered, BrokeOff, PassedOn}
use Rattle.{std.proofs.lemmas.Grind.flat_map-append, std.specs.List.flat_map, std.specs.List.range_with_len}
use Rattle.{std.specs.Prelude.OnErr, def_output.specs.Compared.Differs, qm_output.specs.Laws.broke_later}
use Rattle.qm_output.specs.Laws.{passed_more}

-- The texts of items are those up to one, that one's, and those behind it.
items_apart : {X : Type 0} (f : X → List ℕ) (xs : List X) (i : ℕ) (d : X) → i < length xs
    → (flat_map f (take i xs) ++ f (get_or xs i d)) ++ flat_map f (drop (suc i) xs) ≡ flat_map f xs
items_apart f xs i d low = append_assoc (flat_map f (take i xs)) (f (get_or xs i d)) (flat_map f (drop (suc i) xs))
    ∙ sym (flat_map-append f (take i xs) (get_or xs i d ∷ drop (suc i) xs))
    ∙ ap (flat_map f) (rw (drop-cons xs i d low) at (take-append-drop i xs))

-- What stops at one item stops within the text of all.
pub stops_at_item : {T X : Type 0} (takes stops : T → T → List ℕ → Type 0)
    → ((a b c : T) (s t : List ℕ) → takes a b s → stops b c t → stops a c (s ++ t))
    → ((a b : T) (s t : List ℕ) → stops a b s → stops a b (s ++ t))
    → (f : X → List ℕ) (xs : List X) (i : ℕ) (d : X) (a b c : T) → i < length xs
    → takes a b (flat_map f (take i xs)) → stops b c (f (get_or xs i d)) → stops a c (flat_map f xs)
stops_at_item takes stops later before f xs i d a b c low took stopped =
    rw (← items_apart f xs i d low) (before a c _ (flat_map f (drop (suc i) xs)) (later a b c _ _ took stopped))

-- The same of items that are told by their numbers.
pub stops_at_number : {T X : Type 0} (takes stops : T → T → List ℕ → Type 0)
    → ((a b c : T) (s t : List ℕ) → takes a b s → stops b c t → stops a c (s ++ t))
    → ((a b : T) (s t : List ℕ) → stops a b s → stops a b (s ++ t)) → (f : X → List ℕ) (item : ℕ → X) (n i : ℕ)
    (a b c : T) → i < n → takes a b (flat_map f (map item (range_with_len 0 i))) → stops b c (f (item i))
    → stops a c (flat_map f (map item (range_with_len 0 n)))
stops_at_number takes stops later before f item n i a b c low took stopped = stops_at_item takes stops later before f
    (map item (range_with_len 0 n)) i (item i) a b c (rw (length-map-range_with_len item 0 n) low)
    (rw (take-map-range_with_len item 0 n i (omega (arith, low))) took)
    (rw (get_or-map-range_with_len item 0 n i i (item i) low (omega arith)) stopped)

-- One more of them is put.
pub takes_number : {T X : Type 0} (takes : T → T → List ℕ → Type 0)
    → ((a b c : T) (s t : List ℕ) → takes a b s → takes b c t → takes a c (s ++ t)) → (f : X → List ℕ) (item : ℕ → X)
    (i : ℕ) (a b c : T) → takes a b (flat_map f (map item (range_with_len 0 i))) → takes b c (f (item i))
    → takes a c (flat_map f (map item (range_with_len 0 (i + 1))))
takes_number takes more f item i a b c took next = rw (
  map-range_with_len_more item 0 i i (omega arith),
  flat_map-append f (map item (range_with_len 0 i)) (item i ∷ []),
  append-nil (f (item i)),
) (more a b c _ _ took next)

-- Places at which texts differ.

-- Nothing is left exactly at the end.
pub nothing_left : (given : Bytes) (at : ℕ) → at ≤ length given
    → (eqb at (length given) ≡ true → drop at given ≡ []) × (drop at given ≡ [] → eqb at (length given) ≡ true)
nothing_left given at within = (
  λ met. let e : at ≡ length given = eqb-true at (length given) met in drop_all at given (omega (arith, e)),
  λ none. let e : length (drop at given) ≡ 0 = ap length none in
      eq-eqb at (length given) (omega (arith, e, length-drop at given, within)),
)

-- A text that is alike up to a place, at which the given bytes end or have another byte.
differs_at : (given piece : Bytes) (at n : ℕ) → n ≤ length (drop at given) → take n (drop at given) ≡ take n piece
    → (n < length (drop at given) → n < length piece → ¬ (slice_index (drop at given) n ≡ slice_index piece n))
    → n < length piece
    → Differs (record { at = at; rest = drop at given }) (record { at = at + n; rest = drop (at + n) given }) piece
differs_at given piece at n fits same most inside = record {
  prefix = take n piece;
  byte = get_or piece n 0;
  more = drop (suc n) piece;
  said = rw (← drop-cons piece n 0 inside) (sym (take-append-drop n piece));
  alike = rw (← same, ← drop-drop n at given) (sym (take-append-drop n (drop at given)));
  lacks = rw (← drop-drop n at given) (elim (cases_lt n (length (drop at given))) [
    | inl more ↦ rw (drop-cons (drop at given) n 0 more) (λ same. most more inside (sym same))
    | inr over ↦ rw (drop_all n (drop at given) over) tt
  ]);
  counted = omega (arith, length-take n piece);
}

-- The same of the rest by another name.
pub differs_behind : (given piece rest : Bytes) (at n : ℕ) → rest ≡ drop at given → n ≤ length rest
    → take n rest ≡ take n piece
    → (n < length rest → n < length piece → ¬ (slice_index rest n ≡ slice_index piece n)) → n < length piece
    → Differs (record { at = at; rest = drop at given }) (record { at = at + n; rest = drop (at + n) given }) piece
differs_behind given piece rest at n is fits same most inside =
    differs_at given piece at n (rw is at fits) (rw is at same) (rw is at most) inside

-- A sink that failed and took a prefix.

-- What holds anyway holds of an error.
pub of_error : {T E P : Type 0} (result : Result T E) → P → OnErr result P
of_error (Ok value) p = tt
of_error (Err error) p = p

-- It took a prefix of what waited with a text behind it.
pub prefix_broke : (taken now : Told) (faults faults_now : ℕ) (held text left : Bytes)
    → TookPrefix taken now (held ++ text)
    → Rose faults faults_now → BrokeOff (buffered taken faults held) (buffered now faults_now left) text
prefix_broke taken now faults faults_now held text left prefix rose = record {
  sent = take prefix.count (held ++ text);
  lost = drop prefix.count (held ++ text);
  whole = sym (take-append-drop prefix.count (held ++ text));
  moved = prefix.is;
  fault = rose;
}

-- It took a prefix of what waited.
pub held_broke : (taken now : Told) (faults faults_now : ℕ) (held left : Bytes) → TookPrefix taken now held
    → Rose faults faults_now → BrokeOff (buffered taken faults held) (buffered now faults_now left) []
held_broke taken now faults faults_now held left prefix rose =
    prefix_broke taken now faults faults_now held [] left (rw (append-nil held) prefix) rose

-- It took a prefix of a text before which nothing waited.
pub text_broke : (taken now : Told) (faults faults_now : ℕ) (held text left : Bytes) → held ≡ []
    → TookPrefix taken now text
    → Rose faults faults_now → BrokeOff (buffered taken faults held) (buffered now faults_now left) text
text_broke taken now faults faults_now held text left none prefix rose =
    prefix_broke taken now faults faults_now held text left (rw none prefix) rose

-- Where nothing had waited, the sink took a prefix of the text.
pub text_prefix : (before now : Buffered) (text : Bytes) → before.held ≡ [] → BrokeOff before now text
    → TookPrefix before.taken now.taken text
text_prefix before now text none broke =
    let all : text ≡ broke.sent ++ broke.lost = rw none at broke.whole in
    record {
      count = length broke.sent;
      is = broke.moved ∙ ap (took before.taken)
          (sym (ap (take (length broke.sent)) all ∙ take-append_seam broke.sent broke.lost));
    }

-- So it did where the text was put whole, and what waited of it was not taken.
pub rest_prefix : (before mid now : Buffered) (text : Bytes) → before.held ≡ [] → PassedOn before mid text
    → BrokeOff mid now [] → TookPrefix before.taken now.taken text
rest_prefix before mid now text none passed broke = rw append-nil at
    (text_prefix before now (text ++ []) none (broke_later before mid now text [] passed broke))

-- Where the text was put whole, and then all that waited was taken, the sink took the text.
pub text_whole : (before mid now : Buffered) (text : Bytes) → before.held ≡ [] → PassedOn before mid text
    → PassedOn mid now [] → now.held ≡ [] → now.taken ≡ took before.taken text
text_whole before mid now text none first last empty =
    let all : PassedOn before now (text ++ []) = passed_more before mid now text [] first last in
    let same : text ≡ all.sent = sym (append-nil text) ∙ ap (λ (xs : Bytes). xs ++ (text ++ [])) (sym none) ∙ all.whole
    ∙ ap (λ (xs : Bytes). all.sent ++ xs) empty ∙ append-nil all.sent in
    all.moved ∙ ap (took before.taken) (sym same)
