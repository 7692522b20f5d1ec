-- Filters of a range and the first that passes: what stands at each place, that each number that passes has one.
use Rattle.std.proofs.Common.{rules, ◌≡◌, ◌⊎◌, ℕ, zero, suc, ◌+◌, ◌<◌, ◌≤◌, Bool, true, false, cond, List, [], ◌∷◌}
use Rattle.std.proofs.Common.{◌++◌, length, map, get_or, Some, None, sym, subst, ap, ◌∙◌, refl, inl, inr, arith}
use Rattle.std.proofs.lemmas.Bool.{both_ways, cases_eq, cases_lt, or_left, or_right, or_cases, false≢true}
use Rattle.std.proofs.{lemmas.Option.none-some, lemmas.Option.same_Some, lemmas.List.FromFn.map-range_with_len_more}
use Rattle.std.proofs.{lemmas.List.map-id, lemmas.List.Elements.filter-append}
use Rattle.std.specs.List.{filter, find, list_any, range_with_len}

-- What is below i + 1 is below i, or is i.
pub last_or : (i t : ℕ) → t < i + 1 → (t < i) ⊎ (t ≡ i)
last_or i t l = elim (cases_lt t i) [ inl b ↦ inl b | inr b ↦ inr (omega arith) ]

-- The number x is one of the n from a on, and passes.
pub record IsKept (p : ℕ → Bool) (a n x : ℕ) : Type 0 where
  pub low : a ≤ x
  pub high : x < a + n
  pub passes : p x ≡ true

pub later : (p : ℕ → Bool) (a n x : ℕ) → IsKept p (a + 1) n x → IsKept p a (suc n) x
later p a n x k = record { low = omega arith; high = omega arith; passes = k.passes }

-- Each place of the filter has a number that passes.
pub kept_at : (p : ℕ → Bool) (a n t : ℕ) → t < length (filter p (range_with_len a n))
    → IsKept p a n (get_or (filter p (range_with_len a n)) t 0)
kept_at p a zero t l = absurd (omega arith)
kept_at p a (suc n) t l =
    at (p a) refl (filter p (range_with_len (a + 1) n)) (λ s m. later p a n _ (kept_at p (a + 1) n s m)) t l
  where
    at : (b : Bool) → p a ≡ b → (xs : List ℕ) → ((s : ℕ) → s < length xs → IsKept p a (suc n) (get_or xs s 0)) → (t : ℕ)
        → t < length (cond b (a ∷ xs) xs) → IsKept p a (suc n) (get_or (cond b (a ∷ xs) xs) t 0)
    at true e xs after zero l = record { low = omega arith; high = omega arith; passes = e }
    at true e xs after (suc t) l = after t (omega arith)
    at false e xs after t l = after t l

-- Each number that passes has a place.
pub place_of : (p : ℕ → Bool) (a n x : ℕ) → IsKept p a n x → (t : ℕ) × (t < length (filter p (range_with_len a n)))
    × (get_or (filter p (range_with_len a n)) t 0 ≡ x)
place_of p a zero x k = absurd (omega arith)
place_of p a (suc n) x k = at (p a) refl (filter p (range_with_len (a + 1) n))
    (λ m. place_of p (a + 1) n x (record { low = m; high = omega arith; passes = k.passes }))
  where
    at : (b : Bool) → p a ≡ b → (xs : List ℕ) → (a + 1 ≤ x → (t : ℕ) × (t < length xs) × (get_or xs t 0 ≡ x))
        → (t : ℕ) × (t < length (cond b (a ∷ xs) xs)) × (get_or (cond b (a ∷ xs) xs) t 0 ≡ x)
    at true e xs after = elim (cases_eq a x) [
      | inl s ↦ (0, omega arith, s)
      | inr ne ↦ let r : (t : ℕ) × (t < length xs)
          × (get_or xs t 0 ≡ x) = after (omega arith) in (suc r.0, omega arith, r.2)
    ]
    at false e xs after = elim (cases_eq a x) [
      | inl s ↦ absurd (both_ways (p x) (subst (λ (y : ℕ). p y ≡ false) s e) k.passes)
      | inr ne ↦ after (omega arith)
    ]

-- Later places have greater numbers.
pub rises : (p : ℕ → Bool) (a n s t : ℕ) → s < t → t < length (filter p (range_with_len a n))
    → get_or (filter p (range_with_len a n)) s 0 < get_or (filter p (range_with_len a n)) t 0
rises p a zero s t m l = absurd (omega arith)
rises p a (suc n) s t m l = at (p a) refl (filter p (range_with_len (a + 1) n)) (λ r k. (kept_at p (a + 1) n r k).low)
    (λ i j f k. rises p (a + 1) n i j f k) s t m l
  where
    at : (b : Bool) → p a ≡ b → (xs : List ℕ) → ((r : ℕ) → r < length xs → a + 1 ≤ get_or xs r 0)
        → ((i j : ℕ) → i < j → j < length xs → get_or xs i 0 < get_or xs j 0) → (s t : ℕ) → s < t
        → t < length (cond b (a ∷ xs) xs) → get_or (cond b (a ∷ xs) xs) s 0 < get_or (cond b (a ∷ xs) xs) t 0
    at true e xs low after s zero m l = absurd (omega arith)
    at true e xs low after zero (suc t) m l = omega (arith, low t (omega arith))
    at true e xs low after (suc s) (suc t) m l = after s t (omega arith) (omega arith)
    at false e xs low after s t m l = after s t m l

-- One number more at the end of the range.
pub range_more : (n : ℕ) → range_with_len 0 (n + 1) ≡ range_with_len 0 n ++ n ∷ []
range_more n = sym (map-id _) ∙ map-range_with_len_more (λ x. x) 0 n n (omega arith)
    ∙ ap (λ xs. xs ++ n ∷ []) (map-id _)

pub filter_range_more : (p : ℕ → Bool) (n : ℕ) → filter p (range_with_len 0 (n + 1)) ≡ filter p (range_with_len 0 n)
    ++ cond (p n) (n ∷ []) []
filter_range_more p n = ap (filter p) (range_more n) ∙ filter-append p (range_with_len 0 n) (n ∷ [])

-- A search of a range: none passes, or just one does.
pub find_none : (p : ℕ → Bool) (a n : ℕ) → ((x : ℕ) → a ≤ x → x < a + n → p x ≡ false) → find p (range_with_len a n)
    ≡ None
find_none p a zero none = refl
find_none p a (suc n) none = search (rules, find_none p (a + 1) n (λ x l h. none x (omega arith) (omega arith)))

pub find_one : (p : ℕ → Bool) (a n x : ℕ) → a ≤ x → x < a + n → p x ≡ true
    → ((y : ℕ) → a ≤ y → y < a + n → p y ≡ true → y ≡ x) → find p (range_with_len a n) ≡ Some x
find_one p a zero x l h is one = absurd (omega arith)
find_one p a (suc n) x l h is one =
    at (p a) refl (λ m. find_one p (a + 1) n x m (omega arith) is (λ y k j q. one y (omega arith) (omega arith) q))
  where
    at : (b : Bool) → p a ≡ b → (a + 1 ≤ x → find p (range_with_len (a + 1) n) ≡ Some x)
        → cond b (Some a) (find p (range_with_len (a + 1) n)) ≡ Some x
    at true e after = ap Some (one a (omega arith) (omega arith) e)
    at false e after = elim (cases_eq a x) [
      | inl s ↦ absurd (both_ways (p x) (subst (λ (y : ℕ). p y ≡ false) s e) is)
      | inr ne ↦ after (omega arith)
    ]

-- What is found passes the test.
pub find_passes : (p : ℕ → Bool) (a n x : ℕ) → find p (range_with_len a n) ≡ Some x → (p x ≡ true) × (x < a + n)
find_passes p a zero x e = absurd (none-some x e)
find_passes p a (suc n) x e = at (p a) refl e (λ q. let r : (p x ≡ true) × (x < a + 1 + n) =
    find_passes p (a + 1) n x q in (r.0, omega (arith, r.1)))
  where
    at : (b : Bool) → p a ≡ b → cond b (Some a) (find p (range_with_len (a + 1) n)) ≡ Some x
        → (find p (range_with_len (a + 1) n) ≡ Some x → (p x ≡ true) × (x < a + suc n)) → (p x ≡ true) × (x < a + suc n)
    at true t e after = let s : a ≡ x = same_Some a x e in (subst (λ (y : ℕ). p y ≡ true) s t, omega arith)
    at false t e after = after e

-- A test that some number of a range passes.
pub any_in_range : (p : ℕ → Bool) (a n x : ℕ) → a ≤ x → x < a + n → p x ≡ true → list_any p (range_with_len a n) ≡ true
any_in_range p a zero x l h t = absurd (omega arith)
any_in_range p a (suc n) x l h t = elim (cases_eq a x) [
  | inl e ↦ or_left _ _ (ap p e ∙ t)
  | inr ne ↦ or_right _ _ (any_in_range p (a + 1) n x (omega arith) (omega arith) t)
]

pub range_any : (p : ℕ → Bool) (a n : ℕ) → list_any p (range_with_len a n) ≡ true → (x : ℕ) × (a ≤ x) × (x < a + n)
    × (p x ≡ true)
range_any p a zero t = absurd (false≢true t)
range_any p a (suc n) t = elim (or_cases _ _ t) [
  | inl on ↦ (a, omega arith, omega arith, on)
  | inr rest ↦ search (rules, range_any p (a + 1) n rest)
]

-- Values along a range that agree.
pub map_range_same : {X : Type 0} (f g : ℕ → X) (a n : ℕ) → ((x : ℕ) → a ≤ x → x < a + n → f x ≡ g x)
    → map f (range_with_len a n) ≡ map g (range_with_len a n)
map_range_same f g a zero same = refl
map_range_same f g a (suc n) same = rw (same a (omega arith) (omega arith))
    (ap (λ xs. g a ∷ xs) (map_range_same f g (a + 1) n (λ x l h. same x (omega arith) (omega arith))))
