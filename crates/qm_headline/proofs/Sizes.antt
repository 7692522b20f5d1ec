-- The head line of `refine`.
use Rattle.std.specs.Prelude.{MatchOption, decimal, unsigned_abs, ◌≤ℤ◌}
use Rattle.std.proofs.Common.{◌≡◌, ◌≤◌, ℕ, Option, Some, None, ◌++◌, codes, ap, sym, ◌∙◌, arith, ℤ, pos, true, false}
use Rattle.std.proofs.Common.{length, take, inl, inr, refl, ap₂, subst, append_assoc, ◌↔◌, []}
use Rattle.std.proofs.{lemmas.Fmt.decimal_injective, lemmas.List.append_cancel_left, lemmas.Option.none-some}
use Rattle.std.proofs.{lemmas.Option.same_Some, lemmas.Slice.Eq.bytes_eq-Decides}
use Rattle.std.proofs.lemmas.Bool.{cases_lt, lt-ltb, true≢false}
use Rattle.def_run.specs.declared.command.Command.TheVariants.{Refine, Remesh, Crease, Size, Coarse, Fit}
use Rattle.def_run.specs.MarkLines.{IsRefineHead, IsSizeHead, IsMarkLine}
use Rattle.def_text.specs.Decimal.{is_decimal, is_far, rounded, IsValue}
use Rattle.qm_certtext.proofs.{Cutting.not_stripped, Cutting.one_word, Texts.same_asked, Texts.same_head}
use Rattle.{std.specs.Str.bytes_eq, def_run.specs.Size.size_head, def_run.specs.declared.command.Command.Command}
use Rattle.{def_text.specs.Types.Word, def_text.specs.Canonical.micro_text, qm_fit.proofs.Heads.micro_bare}
use Rattle.{qm_fit.proofs.Heads.one_fit, qm_certtext.specs.Cuts.is_bare, qm_dec.proofs.ReadBack.canonical_law}
use Rattle.{def_fit.specs.declared.fit.Fit.Fit as AnyFit, def_flow.specs.declared.net.Settings.Settings}

abbrev pub refine_front : Word
refine_front = codes "#quadq 1 refine by "

-- The multiple stands behind the front.
pub multiple_read : (line rest : Word) (o : Option ℕ) → line ≡ refine_front ++ rest
    → MatchOption o ((n : ℕ) → 1 ≤ n → n ≤ 1000 → rest ≡ decimal n → ⊥) (λ n. (rest ≡ decimal n) × (1 ≤ n) × (n ≤ 1000))
    → MatchOption o ((by : ℕ) → IsRefineHead line by → ⊥) (IsRefineHead line)
multiple_read line rest None is none =
    λ by head. none by head.low head.high (append_cancel_left refine_front rest (decimal by) (sym is ∙ head.written))
multiple_read line rest (Some n) is read = record {
  written = is ∙ ap (λ (w : Word). refine_front ++ w) read.0;
  low = read.1;
  high = read.2;
}

-- It is one.
pub one_multiple : (line : Word) (m n : ℕ) → IsRefineHead line m → IsRefineHead line n → m ≡ n
one_multiple line m n one two = decimal_injective m n (omega (arith, one.high)) (omega (arith, two.high))
    (append_cancel_left refine_front (decimal m) (decimal n) (sym one.written ∙ two.written))

-- A head line of `size` is cut into its words in one way, and its length is read as it is written.

abbrev pub size_front : Word
size_front = codes "#quadq 1 size edge "

abbrev floor_mark : Word
floor_mark = codes " floor "

-- It is read as that number.
value_is : (word : Word) (edge : ℤ) → unsigned_abs edge ≤ 999_999_999_999_999 → word ≡ micro_text edge
    → (is_decimal word ≡ true) × (rounded word ≡ edge)
value_is word edge near is =
    subst (λ (w : Word). (is_decimal w ≡ true) × (rounded w ≡ edge)) (sym is) (canonical_law edge near)

-- What was read is that number, and in range.
pub read_is : (word : Word) (read edge : ℤ) → IsValue word read → unsigned_abs edge ≤ 999_999_999_999_999
    → word ≡ micro_text edge → read ≡ edge
read_is word read edge value near is = value.2 ∙ (value_is word edge near is).1

pub near_read : (word : Word) (read : ℤ) → IsValue word read → unsigned_abs read ≤ 999_999_999_999_999
near_read word read value = elim (cases_lt 999_999_999_999_999 (unsigned_abs read)) [
  | inl far ↦ absurd (true≢false (sym (lt-ltb 999_999_999_999_999 (unsigned_abs read) far)
      ∙ (ap is_far value.2 ∙ value.1)))
  | inr low ↦ low
]

-- The parts of the line, from the right.
nested : (edge : ℤ) (floor : ℕ)
    → size_head edge floor ≡ size_front ++ (micro_text edge ++ (floor_mark ++ decimal floor))
nested edge floor = append_assoc (size_front ++ micro_text edge) floor_mark (decimal floor) ∙ append_assoc size_front
    (micro_text edge) (floor_mark ++ decimal floor)

pub no_front : (line : Word) → bytes_eq (take (length size_front) line) size_front ≡ false → (edge : ℤ) (floor : ℕ)
    → IsSizeHead line edge floor → ⊥
no_front line other edge floor head = not_stripped size_front line _ other (head.written ∙ nested edge floor)

-- What stands behind the front of such a line.
module _ {line : Word} (rest : Word) (is : line ≡ size_front ++ rest) where
  behind : (edge : ℤ) (floor : ℕ) → IsSizeHead line edge floor → rest ≡ micro_text edge ++ (floor_mark ++ decimal floor)
  behind edge floor head = append_cancel_left size_front _ _ (sym is ∙ (head.written ∙ nested edge floor))

  pub no_words : ((word more : Word) → is_bare word ≡ true → rest ≡ word ++ (floor_mark ++ more) → ⊥)
      → (edge : ℤ) (floor : ℕ) → IsSizeHead line edge floor → ⊥
  no_words none edge floor head =
      none (micro_text edge) (decimal floor) (micro_bare edge head.near) (behind edge floor head)

  module _ (word more : Word) (bare : is_bare word ≡ true) (split : rest ≡ word ++ (floor_mark ++ more)) where
    words_are : (edge : ℤ) (floor : ℕ) → IsSizeHead line edge floor → (word ≡ micro_text edge) × (more ≡ decimal floor)
    words_are edge floor head = one_word word (micro_text edge) more (decimal floor) floor_mark bare
        (micro_bare edge head.near) refl (sym split ∙ behind edge floor head)

    pub no_edge : ((edge : ℤ) → pos 1 ≤ℤ edge → unsigned_abs edge ≤ 999_999_999_999_999 → word ≡ micro_text edge → ⊥)
        → (edge : ℤ) (floor : ℕ) → IsSizeHead line edge floor → ⊥
    no_edge none edge floor head = none edge head.low head.near (words_are edge floor head).0

    pub no_floor : ((n : ℕ) → 1 ≤ n → n ≤ 3 → more ≡ decimal n → ⊥) → (edge : ℤ) (floor : ℕ)
        → IsSizeHead line edge floor → ⊥
    no_floor none edge floor head = none floor head.floor_low head.floor_high (words_are edge floor head).1

    pub has_size : (edge : ℤ) (floor : ℕ)
        → (word ≡ micro_text edge) × (pos 1 ≤ℤ edge) × (unsigned_abs edge ≤ 999_999_999_999_999)
        → (more ≡ decimal floor) × (1 ≤ floor) × (floor ≤ 3) → IsSizeHead line edge floor
    has_size edge floor told least = record {
      written = is ∙ (ap (λ (w : Word). size_front ++ w) (split ∙ ap₂ (λ (w m : Word). w ++ (floor_mark ++ m)) told.0
          least.0) ∙ sym (nested edge floor));
      low = told.1;
      near = told.2;
      floor_low = least.1;
      floor_high = least.2;
    }

-- A line has one length and one floor.
pub one_size : (line : Word) (e d : ℤ) (m n : ℕ) → IsSizeHead line e m → IsSizeHead line d n → (e ≡ d) × (m ≡ n)
one_size line e d m n one two =
    let same : (micro_text e ≡ micro_text d) × (decimal m ≡ decimal n) =
    words_are (micro_text e ++ (floor_mark ++ decimal m)) (one.written ∙ nested e m) (micro_text e) (decimal m)
    (micro_bare e one.near) refl d n two in (
      sym (value_is (micro_text e) e one.near refl).1 ∙ (value_is (micro_text e) d two.near same.0).1,
      decimal_injective m n (omega (arith, one.floor_high)) (omega (arith, two.floor_high)) same.1,
    )

-- A head line is of one command.

-- How far the head lines of two commands may be alike.
abbrev tag_of : (command : Command) → Word
tag_of (Refine by) = codes "#quadq 1 refi"
tag_of (Remesh settings auto) = codes "#quadq 1 reme"
tag_of (Crease settings) = codes "#quadq 1 crea"
tag_of (Size edge floor) = codes "#quadq 1 size"
tag_of (Coarse settings) = codes "#quadq 1 coar"
tag_of (Fit fit) = codes "#quadq 1 fit "
tag_of _ = []

tag_is : (line : Word) (command : Command) → IsMarkLine line command → take 13 line ≡ tag_of command
tag_is line (Refine by) is = ap (take 13) is.written
tag_is line (Remesh settings auto) is = ap (take 13) is.written
tag_is line (Crease settings) is = ap (take 13) is.written
tag_is line (Size edge floor) is = ap (take 13) is.written
tag_is line (Coarse settings) is = ap (take 13) is.written
tag_is line (Fit fit) is = ap (take 13) is.written
tag_is line _ is = absurd is

differ : (line : Word) (a b : Command) → IsMarkLine line a → IsMarkLine line b → bytes_eq (tag_of a) (tag_of b) ≡ false
    → ⊥
differ line a b one two other =
    true≢false (sym ((bytes_eq-Decides (tag_of a) (tag_of b)).1 (sym (tag_is line a one) ∙ tag_is line b two)) ∙ other)

one_line : (line : Word) (a b : Command) → IsMarkLine line a → IsMarkLine line b → a ≡ b
one_line line (Refine m) (Refine n) one two = ap (λ (k : ℕ). Refine k) (one_multiple line m n one two)
one_line line (Remesh s x) (Remesh t y) one two =
    let both = same_head line s t x y one two in
    λ i. Remesh (both.0 i) (both.1 i)
one_line line (Crease s) (Crease t) one two = ap (λ (k : Settings). Crease k) (same_asked
    (codes "#quadq 1 crease scale ") line s t false false one.in_range one.written two.in_range two.written).0
one_line line (Size e m) (Size d n) one two =
    let both = one_size line e d m n one two in
    λ i. Size (both.0 i) (both.1 i)
one_line line (Coarse s) (Coarse t) one two = ap (λ (k : Settings). Coarse k) (same_asked
    (codes "#quadq 1 coarse scale ") line s t false false one.in_range one.written two.in_range two.written).0
one_line line (Fit f) (Fit g) one two =
    ap (λ (k : AnyFit). Fit k) (one_fit line f g one.in_range one.written two.in_range two.written)
one_line line (Refine m) b one two = absurd (differ line (Refine m) b one two refl)
one_line line (Remesh t x) b one two = absurd (differ line (Remesh t x) b one two refl)
one_line line (Crease t) b one two = absurd (differ line (Crease t) b one two refl)
one_line line (Size e m) b one two = absurd (differ line (Size e m) b one two refl)
one_line line (Coarse t) b one two = absurd (differ line (Coarse t) b one two refl)
one_line line (Fit f) b one two = absurd (differ line (Fit f) b one two refl)
one_line line _ b one two = absurd one

-- So what an exact reader gives is the command of the line.
pub read_only : (line : Word) (o : Option Command) → MatchOption o ((command : Command) → IsMarkLine line command → ⊥)
    (IsMarkLine line) → (command : Command) → (o ≡ Some command) ↔ IsMarkLine line command
read_only line None none command = (λ is. absurd (none-some command is), λ mark. absurd (none command mark))
read_only line (Some read) mark command = (
  λ is. subst (IsMarkLine line) (same_Some read command is) mark,
  λ other. ap (λ (k : Command). Some k) (one_line line read command mark other),
)
