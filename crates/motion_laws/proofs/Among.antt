-- Lists of darts: what stands among them, filters, and lists without repeats.
use Rattle.std.proofs.Common.{rules, ◌≡◌, ◌⊎◌, ℕ, zero, suc, Bool, true, false, eqb, ◌+◌, ◌<◌, ◌≤◌, List}
use Rattle.std.proofs.Common.{arith, [], ◌∷◌, Option, Some, None, sym, refl, inl, inr}
use Rattle.std.proofs.lemmas.Bool.{or_left, or_right, or_cases, eq-eqb, eqb-true, false≢true, cases_Bool}
use Rattle.std.specs.List.{filter, list_any, list_all, range_with_len}
use Rattle.list_laws.proofs.Filters.{any_in_range, range_any}
use Rattle.def_cut.specs.Motion.{is_among}

-- A value is there or not; a list is empty or not.
pub cases_Option : {A : Type 0} (o : Option A) → (o ≡ None) ⊎ ((x : A) × (o ≡ Some x))
cases_Option None = inl refl
cases_Option (Some x) = inr (x, refl)

pub cases_List : {A : Type 0} (xs : List A) → (xs ≡ []) ⊎ ((x : A) × (ys : List A) × (xs ≡ x ∷ ys))
cases_List [] = inl refl
cases_List (x ∷ xs) = inr (x, xs, refl)

-- Among a list with one dart more.
pub among_here : (d e : ℕ) (ds : List ℕ) → d ≡ e → is_among d (e ∷ ds) ≡ true
among_here d e ds s = or_left _ _ (eq-eqb d e s)

pub among_later : (d e : ℕ) (ds : List ℕ) → is_among d ds ≡ true → is_among d (e ∷ ds) ≡ true
among_later d e ds m = or_right _ _ m

pub among_cases : (d e : ℕ) (ds : List ℕ) → is_among d (e ∷ ds) ≡ true → (d ≡ e) ⊎ (is_among d ds ≡ true)
among_cases d e ds m = elim (or_cases _ _ m) [ inl s ↦ inl (eqb-true d e s) | inr r ↦ inr r ]

-- A test that some dart of the list passes.
pub any_at : (p : ℕ → Bool) (d : ℕ) (ds : List ℕ) → is_among d ds ≡ true → p d ≡ true → list_any p ds ≡ true
any_at p d [] m t = absurd (false≢true m)
any_at p d (e ∷ ds) m t = grind (arith, any_at p d ds)

pub any_where : (p : ℕ → Bool) (ds : List ℕ) → list_any p ds ≡ true → (d : ℕ) × (is_among d ds ≡ true) × (p d ≡ true)
any_where p [] t = absurd (false≢true t)
any_where p (e ∷ ds) t = grind (arith, any_where p ds)

-- A test that all of a list pass, or that one does not.
pub all_at : (p : ℕ → Bool) (d : ℕ) (ds : List ℕ) → list_all p ds ≡ true → is_among d ds ≡ true → p d ≡ true
all_at p d [] all m = absurd (false≢true m)
all_at p d (e ∷ ds) all m = grind (arith, all_at p d ds)

pub not_all : (p : ℕ → Bool) (ds : List ℕ) → list_all p ds ≡ false → (d : ℕ) × (is_among d ds ≡ true) × (p d ≡ false)
not_all p [] off = absurd (false≢true (sym off))
not_all p (e ∷ ds) off = grind (arith, cases_Bool (p e), not_all p ds, among_here, among_later)

-- What stands among a filter.
pub in_filter : (p : ℕ → Bool) (d : ℕ) (ds : List ℕ) → is_among d ds ≡ true → p d ≡ true → is_among d (filter p ds)
    ≡ true
in_filter p d [] m t = absurd (false≢true m)
in_filter p d (e ∷ ds) m t = grind (arith, cases_Bool (p e), among_cases d e ds m, in_filter p d ds)

pub from_filter : (p : ℕ → Bool) (d : ℕ) (ds : List ℕ) → is_among d (filter p ds) ≡ true → (is_among d ds ≡ true)
    × (p d ≡ true)
from_filter p d [] m = absurd (false≢true m)
from_filter p d (e ∷ ds) m = grind (arith, cases_Bool (p e), from_filter p d ds)

-- No dart stands there twice.
abbrev pub AreApart : (darts : List ℕ) → Type 0
AreApart [] = Unit {0}
AreApart (d ∷ ds) = (is_among d ds ≡ false) × AreApart ds

pub apart_filter : (p : ℕ → Bool) (ds : List ℕ) → AreApart ds → AreApart (filter p ds)
apart_filter p [] a = tt
apart_filter p (e ∷ ds) a = search (rules, from_filter, apart_filter p ds a.1)

-- What stands among a range.
pub among_range : (a n d : ℕ) → a ≤ d → d < a + n → is_among d (range_with_len a n) ≡ true
among_range a n d l h = any_in_range (λ e. eqb d e) a n d l h (eq-eqb d d refl)

pub range_among : (a n d : ℕ) → is_among d (range_with_len a n) ≡ true → (a ≤ d) × (d < a + n)
range_among a n d m = search (rules, range_any)

pub range_apart : (a : ℕ) (n : ℕ) → AreApart (range_with_len a n)
range_apart a zero = tt
range_apart a (suc n) = search (rules, range_among, range_apart (a + 1) n)
