-- A head line is cut into its words in one way.
use Rattle.std.proofs.Common.{rules, Bool, MatchOption, None, Option, Some, append_assoc, arith, codes, false, get_or}
use Rattle.std.proofs.Common.{length, [], drop, eqb, inl, inr, refl, sym, take, true, ◌++◌, ◌∙◌, ◌∷◌, ◌≡◌, ℕ, ap}
use Rattle.std.proofs.{Common.◌≤◌, lemmas.Bool.cases_Bool, lemmas.Bool.false≢true, lemmas.List.Folds.list_all-append}
use Rattle.std.proofs.lemmas.List.{append_cancel_left, drop_at, take-append-drop, take_at}
use Rattle.std.specs.{Char.is_ascii_digit, List.list_all, List.position_or_len, Prelude.decimal, Str.bytes_eq}
use Rattle.def_certtext.specs.Settings.{AreInRange, AreWordsOf, IsFloor, floor_text, scale_text, weight_text}
use Rattle.qm_certtext.specs.Cuts.{IsCut, asked_line, is_bare}
use Rattle.qm_dec.proofs.ReadBack.{decimal_digits, digit_other, digits_fail, first_at, above_is, below_is}
use Rattle.def_flow.specs.{declared.net.Settings.Settings}
use Rattle.{std.proofs.lemmas.Fmt.decimal_injective, def_certtext.specs.declared.Asked.Asked}
use Rattle.{def_certtext.specs.Reading.IsHead, def_text.specs.Types.Word, def_text.specs.Ratio.IsRatio}

-- A text with and without this prefix.
pub stripped : (prefix text rest : Word) → bytes_eq (take (length prefix) text) prefix ≡ true
    → rest ≡ drop (length prefix) text → text ≡ prefix ++ rest
stripped prefix text rest is behind = search (rules, take-append-drop)

pub not_stripped : (prefix text rest : Word) → bytes_eq (take (length prefix) text) prefix ≡ false
    → text ≡ prefix ++ rest → ⊥
not_stripped prefix text rest other is = search (rules, take_at)

-- What stands before the first space has none.
pub prefix_bare : (text : Word) → is_bare (take (position_or_len (λ b. eqb b 32) text) text) ≡ true
prefix_bare [] = refl
prefix_bare (x ∷ xs) = elim (cases_Bool (eqb x 32)) [
  | inl is ↦ rw is refl
  | inr other ↦ let rest = prefix_bare xs in rw other (search rules)
]

-- The word before a mark that begins with a space is the prefix.
place_of : (word mark rest : Word) → is_bare word ≡ true → get_or mark 0 0 ≡ 32
    → position_or_len (λ b. eqb b 32) (word ++ (mark ++ rest)) ≡ length word
place_of word [] rest bare begins = absurd (omega arith)
place_of word (x ∷ xs) rest bare begins = rw begins (first_at (λ b. eqb b 32) word 32 (xs ++ rest) bare refl)

pub behind_is : (text word mark rest behind : Word) (i : ℕ) → is_bare word ≡ true → get_or mark 0 0 ≡ 32 → text
    ≡ word ++ (mark ++ rest) → i ≡ position_or_len (λ b. eqb b 32) text → behind ≡ drop i text → behind ≡ mark ++ rest
behind_is text word mark rest behind i bare begins is place back = search (rules, place_of, drop_at)

-- So one word stands before the first mark.
pub one_word : (a b x y mark : Word) → is_bare a ≡ true → is_bare b ≡ true → get_or mark 0 0 ≡ 32
    → a ++ (mark ++ x) ≡ b ++ (mark ++ y) → (a ≡ b) × (x ≡ y)
one_word a b x y mark bare_a bare_b begins same =
    let long : length a ≡ length b = search (rules, place_of) in
    let prefix : a ≡ b = sym (take_at a (mark ++ x) (length a) refl) ∙ ap (take _) same
    ∙ take_at b (mark ++ y) (length a) (sym long) in
    search (rules, append_cancel_left)

abbrev floor_mark : Word
floor_mark = codes " floor "

abbrev weight_mark : Word
weight_mark = codes " weight "

-- What stands behind the prefix of a head line.
behind_prefix : {prefix line rest scale floor weight : Word} → line ≡ prefix ++ rest
    → IsCut prefix line scale floor weight → rest ≡ scale ++ (floor_mark ++ (floor ++ (weight_mark ++ weight)))
behind_prefix {prefix} is cut = append_cancel_left prefix _ _ (sym is ∙ cut.written)

-- A line has one cut.
one_cut : {prefix line a b c d e f : Word} → IsCut prefix line a b c → IsCut prefix line d e f → (a ≡ d) × (b ≡ e)
    × (c ≡ f)
one_cut {a} {b} {c} {d} {e} {f} one two =
    let scales = one_word a d _ _ floor_mark one.scale_bare two.scale_bare refl (behind_prefix one.written two) in
    grind (arith, one_word b e c f weight_mark one.floor_bare two.floor_bare)

-- The words of settings have no space.
digits_bare : (digits : Word) → list_all is_ascii_digit digits ≡ true → is_bare digits ≡ true
digits_bare digits all = digits_fail (λ b. eqb b 32) (digit_other 32 (omega arith)) digits all

scale_bare : (settings : Settings) (auto : Bool) → AreInRange settings auto → is_bare (scale_text settings) ≡ true
scale_bare settings auto range = search (rules, list_all-append, digits_bare, decimal_digits)

floor_bare : (floor : ℕ) (auto : Bool) → IsFloor floor auto → is_bare (floor_text floor auto) ≡ true
floor_bare floor true may = refl
floor_bare floor false may = digits_bare (decimal floor) (decimal_digits floor (omega arith))

-- The parts of a head line, from the right.
nested : (a b c d e f : Word) → a ++ b ++ c ++ d ++ e ++ f ≡ a ++ (b ++ (c ++ (d ++ (e ++ f))))
nested a b c d e f = search (rules, append_assoc)

pub asked_cut : (prefix line : Word) (settings : Settings) (auto : Bool) → AreInRange settings auto
    → line ≡ asked_line prefix settings auto
    → IsCut prefix line (scale_text settings) (floor_text settings.floor auto) (weight_text settings.weight)
asked_cut prefix line settings auto range is = record {
  written = is ∙ nested prefix (scale_text settings) floor_mark (floor_text settings.floor auto) weight_mark
      (weight_text settings.weight);
  scale_bare = scale_bare settings auto range;
  floor_bare = floor_bare settings.floor auto range.floor;
}

-- Its words are those of the settings.
pub asked_words : {prefix line scale floor weight : Word} {settings : Settings} {auto : Bool}
    → IsCut prefix line scale floor weight
    → AreInRange settings auto → line ≡ asked_line prefix settings auto → AreWordsOf scale floor weight settings auto
asked_words {prefix} {line} {settings} {auto} cut range is =
    grind (arith, one_cut cut (asked_cut prefix line settings auto range is))

pub no_floor : {prefix line rest : Word} → line ≡ prefix ++ rest → (first more : Word) → is_bare first ≡ true
    → rest ≡ first ++ (floor_mark ++ more)
    → ((word last : Word) → is_bare word ≡ true → more ≡ word ++ (weight_mark ++ last) → ⊥)
    → (scale floor weight : Word) → IsCut prefix line scale floor weight → ⊥
no_floor is first more bare split none scale floor weight cut =
    let one = one_word first scale more _ floor_mark bare cut.scale_bare refl (sym split ∙ behind_prefix is cut) in
    none floor weight cut.floor_bare one.1

-- The settings of a cut line are those of its words.
pub asked_read : {prefix line scale floor weight : Word} (o : Option Asked) → IsCut prefix line scale floor weight
    → MatchOption o ((settings : Settings) (auto : Bool) → AreWordsOf scale floor weight settings auto → ⊥)
    (λ asked. AreWordsOf scale floor weight asked.settings asked.auto)
    → MatchOption o ((settings : Settings) (auto : Bool) → AreInRange settings auto → line ≡ asked_line prefix settings
    auto → ⊥) (λ asked. AreInRange asked.settings asked.auto × (line ≡ asked_line prefix asked.settings asked.auto))
asked_read None cut none = λ settings auto range is. none settings auto (asked_words cut range is)
asked_read (Some asked) cut words = search (rules, nested)

-- Behind the prefix of a head line they are those of the head line.
pub head_read : (line : Word) (o : Option Asked) → MatchOption o ((settings : Settings) (auto : Bool) → AreInRange
    settings auto → line ≡ asked_line (codes "#quadq 1 remesh scale ") settings auto → ⊥)
    (λ asked. AreInRange asked.settings asked.auto × (line ≡ asked_line (codes "#quadq 1 remesh scale ") asked.settings
    asked.auto)) → MatchOption o ((settings : Settings) (auto : Bool) → IsHead line settings auto → ⊥)
    (λ asked. IsHead line asked.settings asked.auto)
head_read line None none = λ settings auto head. none settings auto head.in_range head.written
head_read line (Some asked) read = record { written = read.1; in_range = read.0 }

-- Words say one settings, and begin with no hyphen.

same_ratio : (word : Word) (p q r s : ℕ) → IsRatio word p q → IsRatio word r s → (p ≡ r) × (q ≡ s)
same_ratio word p q r s one two =
    let below : 47 ∷ decimal q ≡ 47 ∷ decimal s = sym (below_is word p q one) ∙ below_is word r s two in (
      decimal_injective p r (omega arith) (omega arith) (sym (above_is word p q one) ∙ above_is word r s two),
      decimal_injective q s (omega arith) (omega arith) (ap (drop 1) below),
    )

-- A chosen floor is written with no digit.
not_chosen : (floor : ℕ) → floor ≤ 3 → codes "auto" ≡ decimal floor → ⊥
not_chosen floor low is = false≢true (ap (list_all is_ascii_digit) is ∙ decimal_digits floor (omega arith))

-- Three words have one settings.
pub same_settings : (scale floor weight : Word) (s t : Settings) (a b : Bool) → AreWordsOf scale floor weight s a
    → AreWordsOf scale floor weight t b → (s ≡ t) × (a ≡ b)
same_settings scale floor weight s t a b one two = search (rules, same_ratio, not_chosen, decimal_injective)
