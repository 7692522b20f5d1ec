-- The lines and the words of a canonical text.
use Rattle.std.proofs.lemmas.List.Sums.{AllPass-from_list_all, list_all-from_AllPass}
use Rattle.std.proofs.lemmas.List.{length-append, Folds.list_all-append, Elements.All-drop, Elements.All-take}
use Rattle.std.proofs.lemmas.{List.append_assoc, Fmt.length-decimal-le, Fmt.decimal_nonempty, Bool.Decides.nat_tests}
use Rattle.std.proofs.Common.{rules, Bool, List, arith, eqb, false, get_or, length, refl, true, ◌&&◌, ◌++◌, leb, not, ℕ}
use Rattle.std.proofs.Common.{[], suc, ◌%◌, ◌*◌, ◌+◌, ◌-◌, ◌/◌, ◌<◌, ◌^◌, ◌∙◌, ◌∷◌, ◌≡◌, ◌≤◌, ℤ}
use Rattle.qm_obj.proofs.TailLemmas.{all_before, all_from, lines_fed, none_from_all, passes_at, same_last}
use Rattle.def_text.specs.Canonical.{fraction_text, without_zeros, micro_text, six_digits}
use Rattle.std.specs.{Prelude.unsigned_abs, Prelude.decimal, List.suffix_len, List.flat_map, Char.is_ascii_digit}
use Rattle.def_text.specs.{Words.ends_word, Words.is_blank, Logical.logical_lines, Logical.continues, Logical.Logical}
use Rattle.{std.proofs.lemmas.Bool.and_from, qm_dec.proofs.ReadBack.decimal_digits, def_io.specs.Lines.lines_of}
use Rattle.{std.specs.List.list_all, def_text.specs.Words.words, def_text.specs.Types.Words, def_io.specs.Bytes.Lines}

-- The bytes of words: from the minus to the digits.
abbrev pub is_plain : ℕ → Bool
is_plain b = leb 45 b && leb b 57

-- No byte that ends or cuts a line.
abbrev pub is_tame : ℕ → Bool
is_tame b = (not (eqb b 10) && not (eqb b 13)) && (not (eqb b 35) && not (eqb b 92))

plain_word : (b : ℕ) → is_plain b ≡ true → is_blank b ≡ false
plain_word b is = grind (arith, nat_tests)

all_both : {X : Type 0} (p : X → Bool) (xs ys : List X) → list_all p xs ≡ true → list_all p ys ≡ true
    → list_all p (xs ++ ys) ≡ true
all_both p xs ys a b = list_all-append p xs ys ∙ and_from _ _ a b

-- Words of the canonical text: of plain bytes, not empty, and short.
pub record IsWord (word : List ℕ) : Type 0 where
  pub plain : list_all is_plain word ≡ true
  pub some : 0 < length word
  pub short : length word ≤ 60

abbrev pub AreWords : Words → Type 0
AreWords ws = (k : ℕ) → k < length ws → IsWord (get_or ws k [])

pub decimal_word : (n : ℕ) → n < 2 ^ 64 → IsWord (decimal n)
decimal_word n l = record {
  plain = all_from is_ascii_digit is_plain (λ b is. grind (arith, nat_tests)) (decimal n) (decimal_digits n l);
  some = decimal_nonempty n l;
  short = omega (arith, length-decimal-le 20 n (omega arith) (omega arith) l);
}

fraction_plain : (n : ℕ) → n < 10 ^ 6 → (list_all is_plain (fraction_text n) ≡ true) × (length (fraction_text n) ≤ 21)
fraction_plain n small =
    let digits = six_digits n in
    let kept = length digits - suffix_len (λ digit. eqb digit 48) digits in
    let rest : list_all is_plain (without_zeros digits) ≡ true = list_all-from_AllPass is_plain (without_zeros digits)
    (All-take (λ b. is_plain b ≡ true) kept digits (All-drop (λ b. is_plain b ≡ true) 1 _
    (AllPass-from_list_all is_plain (decimal (10 ^ 6 + n)) (decimal_word (10 ^ 6 + n) (omega arith)).plain))) in
    let long = length-decimal-le 20 (10 ^ 6 + n) (omega arith) (omega arith) (omega arith) in search rules

pub micro_word : (z : ℤ) → unsigned_abs z ≤ 999_999_999_999_999 → IsWord (micro_text z)
micro_word z near =
    let whole = decimal_word (unsigned_abs z / 10 ^ 6) (omega arith) in
    let twenty = length-decimal-le 20 (unsigned_abs z / 10 ^ 6) (omega arith) (omega arith) (omega arith) in
    let behind = fraction_plain (unsigned_abs z % 10 ^ 6) (omega arith) in
    search (rules, length-append, list_all-append)

-- A letter and words behind it, with a blank before each.
abbrev pub line_text : ℕ → Words → List ℕ
line_text letter ws = letter ∷ flat_map (λ w. 32 ∷ w) ws

-- The words of such a line.
blank_next : (ws : Words) → ends_word (flat_map (λ w. 32 ∷ w) ws) ≡ true
blank_next [] = refl
blank_next (w ∷ ws) = refl

word_then : (b : ℕ) (bs rest : List ℕ) → list_all is_plain (b ∷ bs) ≡ true → ends_word rest ≡ true
    → words (b ∷ bs ++ rest) ≡ (b ∷ bs) ∷ words rest
word_then b [] rest plain ends = search (rules, plain_word)
word_then b (c ∷ cs) rest plain ends = search (rules, plain_word, word_then c cs rest)

words_behind : (ws : Words) → AreWords ws → words (flat_map (λ w. 32 ∷ w) ws) ≡ ws
words_behind [] each = refl
words_behind ([] ∷ ws) each = absurd (omega (arith, (each 0 (omega arith)).some))
words_behind ((b ∷ bs) ∷ ws) each = search
    (rules, word_then, blank_next, (each 0 (omega arith)).plain, words_behind ws (λ k l. each (suc k) (omega arith)))

pub line_words : (letter : ℕ) (ws : Words) → is_blank letter ≡ false → AreWords ws
    → words (line_text letter ws) ≡ (letter ∷ []) ∷ ws
line_words letter ws bare each = search (rules, blank_next, words_behind)

-- Its bytes are tame, and it is short.
behind_line : (ws : Words) → AreWords ws → (list_all is_tame (flat_map (λ w. 32 ∷ w) ws) ≡ true)
    × (length (flat_map (λ w. 32 ∷ w) ws) ≤ length ws * 61)
behind_line [] each = (refl, omega arith)
behind_line (w ∷ ws) each =
    let first : IsWord w = each 0 (omega arith) in
    search (rules, all_from, all_both, length-append, behind_line ws (λ k l. each (suc k) (omega arith)))

pub record IsLine (line : List ℕ) : Type 0 where
  pub tame : list_all is_tame line ≡ true
  pub short : length line ≤ 65536

pub line_tame : (letter : ℕ) (ws : Words) → is_tame letter ≡ true → length ws ≤ 4 → AreWords ws
    → IsLine (line_text letter ws)
line_tame letter ws tame few each = grind (arith, behind_line ws each)

-- A byte that ends no line.
abbrev pub is_inside : ℕ → Bool
is_inside b = not (eqb b 10) && not (eqb b 13)

pub tame_inside : (line : List ℕ) → list_all is_tame line ≡ true → list_all is_inside line ≡ true
tame_inside line tame = search (rules, all_from)

-- The lines of a text whose lines have no byte that ends one.
pub lines_back : (ls : Lines) → ((k : ℕ) → k < length ls → list_all is_inside (get_or ls k []) ≡ true)
    → lines_of (flat_map (λ l. l ++ 10 ∷ []) ls) ≡ ls
lines_back [] each = refl
lines_back (l ∷ ls) each =
    let first : list_all is_inside l ≡ true = each 0 (omega arith) in
    search (rules, none_from_all, append_assoc, lines_fed, same_last, lines_back ls (λ k m. each (suc k) (omega arith)))

-- The lines of a text of tame lines.
pub lines_split : (ls : Lines) → ((k : ℕ) → k < length ls → IsLine (get_or ls k []))
    → lines_of (flat_map (λ l. l ++ 10 ∷ []) ls) ≡ ls
lines_split ls each = lines_back ls (λ k l. tame_inside (get_or ls k []) (each k l).tame)

-- Each of them is a logical line.
abbrev pub plain_lines : ℕ → Lines → List Logical
plain_lines number [] = []
plain_lines number (l ∷ ls) = record { number = number; size = length l; text = l } ∷ plain_lines (number + 1) ls

pub no_continuation : (line : List ℕ) → list_all is_tame line ≡ true → continues line ≡ false
no_continuation [] tame = refl
no_continuation (b ∷ bs) tame = search (rules, nat_tests, passes_at)

pub logical_plain : (number : ℕ) (ls : Lines) → ((k : ℕ) → k < length ls → IsLine (get_or ls k []))
    → logical_lines number ls ≡ plain_lines number ls
logical_plain number [] each = refl
logical_plain number (l ∷ ls) each =
    let first : IsLine l = each 0 (omega arith) in
    search (
      rules,
      none_from_all,
      no_continuation,
      all_before,
      logical_plain (number + 1) ls (λ k m. each (suc k) (omega arith)),
    )
