-- One number more of a range.
use Rattle.std.proofs.Common.{◌≡◌, ◌+◌, ◌*◌, ◌/◌, ◌%◌, ℕ, suc, Bool, true, false, List, [], ◌∷◌, ◌++◌, map, filter}
use Rattle.std.proofs.Common.{refl, ap, ap₂, sym, ◌∙◌, arith, append-nil, append_assoc}
use Rattle.std.proofs.{lemmas.List.map-append, lemmas.List.Concat.flat_map-append, lemmas.List.Elements.filter-append}
use Rattle.def_gen.specs.declared.TheConstants.{ADDEND, FACTOR, HEIGHTS, LOW_STATES, STATES}
use Rattle.def_gen.specs.Steps.{block_height, state_after}
use Rattle.{std.specs.List.flat_map, std.specs.List.range_with_len, list_laws.proofs.Filters.range_more}

pub map_more : {X : Type 0} (f : ℕ → X) (n : ℕ) → map f (range_with_len 0 (n + 1)) ≡ map f (range_with_len 0 n)
    ++ f n ∷ []
map_more f n = ap (map f) (range_more n) ∙ map-append f (range_with_len 0 n) (n ∷ [])

pub flat_more : {X : Type 0} (f : ℕ → List X) (n : ℕ) → flat_map f (range_with_len 0 (n + 1))
    ≡ flat_map f (range_with_len 0 n) ++ f n
flat_more f n = ap (flat_map f) (range_more n) ∙ flat_map-append f (range_with_len 0 n) (n ∷ []) ∙ ap
    (λ (ys : List _). flat_map f (range_with_len 0 n) ++ ys) (append-nil (f n))

-- A number that passes, and one that does not.
pub taken_more : {X : Type 0} (f : ℕ → X) (p : ℕ → Bool) (n : ℕ) → p n ≡ true
    → map f (filter p (range_with_len 0 (n + 1))) ≡ map f (filter p (range_with_len 0 n)) ++ f n ∷ []
taken_more f p n is = ap (λ (ns : List ℕ). map f (filter p ns)) (range_more n) ∙ ap (map f)
    (filter-append p (range_with_len 0 n) (n ∷ [])) ∙ ap (λ (ns : List ℕ). map f (filter p (range_with_len 0 n) ++ ns))
    (rw is refl) ∙ map-append f (filter p (range_with_len 0 n)) (n ∷ [])

pub left_more : {X : Type 0} (f : ℕ → X) (p : ℕ → Bool) (n : ℕ) → p n ≡ false
    → map f (filter p (range_with_len 0 (n + 1))) ≡ map f (filter p (range_with_len 0 n))
left_more f p n isnt = ap (λ (ns : List ℕ). map f (filter p ns)) (range_more n) ∙ ap (map f)
    (filter-append p (range_with_len 0 n) (n ∷ [])) ∙ ap (λ (ns : List ℕ). map f (filter p (range_with_len 0 n) ++ ns))
    (rw isnt refl) ∙ ap (map f) (append-nil (filter p (range_with_len 0 n)))

-- One item more of a list in the making.
pub pushed_more : {X : Type 0} (f : ℕ → X) (n : ℕ) (before old new : List X)
    → old ≡ before ++ map f (range_with_len 0 n) → new ≡ old ++ f n ∷ []
    → new ≡ before ++ map f (range_with_len 0 (n + 1))
pushed_more f n before old new is grown = grown ∙ ap (λ (xs : List _). xs ++ f n ∷ []) is ∙ append_assoc before
    (map f (range_with_len 0 n)) (f n ∷ []) ∙ ap (λ (xs : List _). before ++ xs) (sym (map_more f n))

pub taken_push : {X : Type 0} (f : ℕ → X) (p : ℕ → Bool) (n : ℕ) (before old new : List X)
    → old ≡ before ++ map f (filter p (range_with_len 0 n)) → p n ≡ true
    → new ≡ old ++ f n ∷ [] → new ≡ before ++ map f (filter p (range_with_len 0 (n + 1)))
taken_push f p n before old new is passes grown = grown ∙ ap (λ (xs : List _). xs ++ f n ∷ []) is ∙ append_assoc before
    (map f (filter p (range_with_len 0 n))) (f n ∷ []) ∙ ap (λ (xs : List _). before ++ xs)
    (sym (taken_more f p n passes))

pub left_push : {X : Type 0} (f : ℕ → X) (p : ℕ → Bool) (n : ℕ) (before old : List X)
    → old ≡ before ++ map f (filter p (range_with_len 0 n)) → p n ≡ false
    → old ≡ before ++ map f (filter p (range_with_len 0 (n + 1)))
left_push f p n before old is fails = is ∙ ap (λ (xs : List _). before ++ xs) (sym (left_more f p n fails))

-- The next state, and the height that it gives.
pub state_more : (n k old new : ℕ) → old ≡ state_after n k → new ≡ (FACTOR * old + ADDEND) % STATES
    → new ≡ state_after n (k + 1)
state_more n k old new is next =
    let one : k + 1 ≡ suc k = omega arith in
    next ∙ ap (λ (s : ℕ). (FACTOR * s + ADDEND) % STATES) is ∙ ap (state_after n) (sym one)

pub height_more : (n k old new : ℕ) (heights more : List ℕ) → heights ≡ map (block_height n) (range_with_len 0 k)
    → old ≡ state_after n k → new ≡ (FACTOR * old + ADDEND) % STATES
    → more ≡ heights ++ (4 + (new / LOW_STATES) % HEIGHTS) ∷ [] → more ≡ map (block_height n) (range_with_len 0 (k + 1))
height_more n k old new heights more all is next grown =
    let one : k + 1 ≡ suc k = omega arith in
    let last : new ≡ state_after n (suc k) = state_more n k old new is next ∙ ap (state_after n) one in
    grown ∙ ap₂ (λ (hs : List ℕ) (s : ℕ). hs ++ (4 + (s / LOW_STATES) % HEIGHTS) ∷ []) all last
    ∙ sym (map_more (block_height n) k)
